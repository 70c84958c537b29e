-- What is new in the area is what the vault has, or was made.
use Rattle.std.proofs.Common.{◌≡◌, ◌⊎◌, ℕ, ◌≤◌, ◌+◌, List, length, sym, ap, ◌∙◌, subst, arith, inl, inr}
use Rattle.std.specs.Prelude.{take, drop}
use Rattle.std.proofs.lemmas.List.{length-map, length-take-le, length-drop}
use Rattle.joint_ops.specs.ps_outside.Outside.{Outside}
use Rattle.joint_ops.specs.obj_area.Words.{AreWords}
use Rattle.joint_ops.specs.obj_layout.Stored.{Space, Holds}
use Rattle.joint_ops.specs.obj_layout.Objects.{node}
use Rattle.joint_ops.specs.obj_layout.declared.header.Header.{Header}
use Rattle.joint_ops.proofs.of_heap_meaning.of_obj_layout.StoredLaws.{HasObject-object}
use Rattle.joint_ops.specs.swizzle.Objects.{object_in, header_in, reference_at}
use Rattle.joint_ops.specs.swizzle.Heap.{Heap, IsHeap, IsHeld, IsListed, header_at}
use Rattle.joint_ops.specs.swizzle.Fetched.{IsFar}
use Rattle.joint_ops.specs.swizzle.Joint.{far_of, shown_words}
use Rattle.swizzle.proofs.FetchedLaws.{far_header, header-spelled}
use Rattle.joint_ops.specs.World.{IsStored}
use Rattle.joint_ops.specs.Seeing.{IsClean}
use Rattle.joint_ops.proofs.SeenLaws.{stored-stays}
use Rattle.node_rows.specs.Keys.{Keys}
use Rattle.table_nodes.specs.Fetching.{Came, Fetches, IsNew}
use Rattle.table_nodes.specs.Nodes as nodes
use Rattle.table_lib.specs.Entries.{SparesBut}
use Rattle.reach_commit.specs.commit_images.Images.{image_of}
use Rattle.reach_commit.specs.commit_images.Stored.{IsWhole}
use Rattle.joint_held.specs.Entering.{HasBrought}
use Rattle.joint_held.proofs.ImageLaws.{came-image, contents-same, held-words}

pub of-nodes : (outside : Outside Space) (pid : ℕ) (words : List ℕ) → nodes.IsStored outside pid words → IsStored outside pid words
of-nodes outside pid words s = record { there = s.there; header = s.header; far = s.far; clean = record { flags = s.clean.0; pid = s.clean.1; chain = s.clean.2 } }

clean-of : (outside : Outside Space) (pid : ℕ) (words : List ℕ) → (s : nodes.IsStored outside pid words) → IsClean s.header
clean-of outside pid words s = record { flags = s.clean.0; pid = s.clean.1; chain = s.clean.2 }

-- what the words show has the counts of their header
far-counts : (words : List ℕ) (header : Header) → IsFar words header → (length (shown_words words).refs ≡ header.refs) × (length (shown_words words).nums ≡ header.nums)
unfolding object_in
far-counts words header f =
    let h = far_header words header f in
    let r : (header_in words).refs ≡ header.refs = ap (λ (g : Header). g.refs) h in
    let n : (header_in words).nums ≡ header.nums = ap (λ (g : Header). g.nums) h in
    let long = f.long in (
      length-map (object_in words).refs far_of ∙ (length-map (take (header_in words).refs (drop 4 words)) reference_at ∙ (length-take-le (header_in words).refs (drop 4 words) (let d = length-drop 4 words in omega (arith, d, long, r)) ∙ r)),
      length-take-le (header_in words).nums (drop (4 + (header_in words).refs) words) (let d = length-drop (4 + (header_in words).refs) words in omega (arith, d, long, r, n)) ∙ n,
    )

came-whole : (new : Heap) (before : Outside Space) (y : ℕ) → Came new before y → IsWhole new y
unfolding object_in
came-whole new before y c =
    let is = HasObject-object c.there.there.space (header_at new y).pid c.words c.there.there.has in
    let far : header_in c.words ≡ c.there.header = far_header c.words c.there.header c.there.far in
    let spelled : header_in c.words ≡ is.header = header-spelled c.words is.header is.fields (sym is.spelled) in
    let counts = far-counts c.words c.there.header c.there.far in
    let head : c.there.header ≡ is.header = sym far ∙ spelled in
    record {
      contents = is.contents;
      counts = contents-same is.header (header_at new y) is.contents (c.kind ∙ ap (λ (h : Header). h.kind) spelled) (c.refs ∙ (counts.0 ∙ ap (λ (h : Header). h.refs) head)) (c.nums ∙ (counts.1 ∙ ap (λ (h : Header). h.nums) head))
          (c.bytes ∙ ap (λ (h : Header). h.bytes) spelled) is.holds;
    }

new-whole : (ks : Keys) (new : Heap) (y : ℕ) → IsNew ks new y → IsWhole new y
new-whole ks new y n = record {
  contents = node;
  counts = record {
    kind = n.node.kind;
    counted = ap (λ r. Rattle.joint_ops.specs.obj_layout.Objects.counts r (header_at new y).nums (header_at new y).bytes) n.node.refs
        ∙ (ap (λ k. Rattle.joint_ops.specs.obj_layout.Objects.counts 4 k (header_at new y).bytes) n.node.nums ∙ ap (λ b. Rattle.joint_ops.specs.obj_layout.Objects.counts 4 3 b) n.bytes);
    allowed = tt;
  };
}

-- what came, by what is new
pub came-new : (ks : Keys) (old new : Heap) (before : Outside Space) (y : ℕ) → Fetches ks old new before → IsHeld new y → (IsHeld old y → ⊥) → Came new before y ⊎ IsNew ks new y
came-new ks old new before y f held away = elim (f y held) [ inl was ↦ absurd (away was) | inr k ↦ k ]

module _ (ks : Keys) (old new : Heap) (before after : Outside Space) (x : ℕ) (sound : IsHeap new) (wide : (space : Space) → before.contents space → AreWords space.words) (spares : SparesBut x old new before after)
    (f : Fetches ks old new before) (whole : (y : ℕ) → IsHeld old y → IsWhole old y) where
  there : (y : ℕ) → 1 ≤ (header_at new y).pid → Came new before y ⊎ IsNew ks new y → (words : List ℕ) × Holds after (header_at new y).pid words
  there y low (inl c) = (c.words, record { space = c.there.there.space; is = spares.contents.kept c.there.there.space c.there.there.is; has = c.there.there.has })
  there y low (inr n) = let none = n.unstored in absurd (omega (arith, none, low))

  same : (y : ℕ) → IsHeld new y → 1 ≤ (header_at new y).pid → (IsListed y new.assigned → ⊥) → Came new before y ⊎ IsNew ks new y → IsStored after (header_at new y).pid (image_of new y)
  same y held low unlisted (inr n) = let none = n.unstored in absurd (omega (arith, none, low))
  same y held low unlisted (inl c) = elim (c.shown) [
    | inr n ↦ absurd (unlisted n.1)
    | inl shown ↦
        let pid = (header_at new y).pid in
        let image = came-image new y c.words c.there.header sound held c.there.far (held-words before pid c.words wide c.there.there) (clean-of before pid c.words c.there) shown in
        subst (IsStored after pid) (sym image) (stored-stays before after pid c.words spares.contents (of-nodes before pid c.words c.there))
  ]

  whole-now : (y : ℕ) → IsHeld new y → IsWhole new y
  whole-now y held = elim (f y held) [
    | inl was ↦
        let l = spares.lasts y was in
        let w = whole y was in
        record { contents = w.contents; counts = contents-same (header_at old y) (header_at new y) w.contents l.kind l.refs l.nums l.bytes w.counts }
    | inr (inl c) ↦ came-whole new before y c
    | inr (inr n) ↦ new-whole ks new y n
  ]

  pub brought : HasBrought old new after
  brought = record {
    there = λ y held away low. there y low (came-new ks old new before y f held away);
    same = λ y held away low unlisted. same y held low unlisted (came-new ks old new before y f held away);
    whole = whole-now;
  }
