-- How the area gains objects: by a reading, by a making, and one after the other; and what area and vault stand for then.
use Rattle.std.proofs.Common.{arith, inl, inr, ◌⊎◌, ◌≡◌, ℕ, ◌≤◌, List, refl, sym, ap, ◌∙◌, subst}
use Rattle.std.proofs.lemmas.Bool.{cases_eq}
use Rattle.heap_meaning.specs.ps_outside.Outside.{Outside}
use Rattle.heap_meaning.specs.obj_layout.Objects.{Contents, HasContents, counts}
use Rattle.heap_meaning.specs.obj_layout.Stored.{Space}
use Rattle.heap_meaning.specs.obj_layout.declared.header.Header.{Header}
use Rattle.heap_meaning.specs.obj_layout.declared.reference.Reference as reference
use Rattle.heap_meaning.specs.obj_layout.declared.reference.Reference.TheVariants as name
use Rattle.heap_meaning.specs.swizzle.Objects.{Object}
use Rattle.heap_meaning.specs.swizzle.Heap as area
use Rattle.heap_meaning.specs.swizzle.Heap.{IsHeap, IsHeld, IsInside, IsMade, header_at, object_at, top_of, local_of}
use Rattle.heap_meaning.specs.swizzle.Joint.{Shown, name_at}
use Rattle.heap_meaning.specs.swizzle.Reading.{AreKnown, Reads}
use Rattle.heap_meaning.specs.swizzle.Touch.{Keeps}
use Rattle.heap_meaning.specs.swizzle.Changes.{Within}
use Rattle.heap_meaning.proofs.of_swizzle.NameLaws.{name_at-injective, name-not_nil, name-none, name-pid, pid_in}
use Rattle.heap_meaning.proofs.of_swizzle.JointLaws.{name-fresh, held-cases}
use Rattle.heap_meaning.proofs.of_swizzle.MadeLaws.{made-object}
use Rattle.heap_meaning.proofs.of_swizzle.ReadingLaws.{among-known}
use Rattle.heap_meaning.proofs.of_swizzle.TouchLaws.{keeps-refl, keeps-trans}
use Rattle.heap_meaning.specs.ps_heap.Objects.{Heap}
use Rattle.heap_meaning.proofs.PairedLaws.{row-within}
use Rattle.joint_ops.specs.Seeing.{Came, WasMade, Gains}
use Rattle.joint_ops.specs.World.{IsStored, IsWorld, seen, Stands}
use Rattle.joint_ops.proofs.SeenLaws.{Known, seen-is, stored-stays, reads-within, keeps-carries, still-away}
use Rattle.joint_ops.proofs.GrowthLaws.{made-keeps, made-grows}

-- What a name tells of the object that has it.

pub pid-named : (here : area.Heap) (x p : ℕ) → name_at here x ≡ name.Pid p → (1 ≤ (header_at here x).pid) × ((header_at here x).pid ≡ p)
unfolding pid_in
pid-named here x p e = elim (cases_eq (header_at here x).pid 0) [
  | inl none ↦ let bad : name.Local x ≡ name.Pid p = sym (name-none (header_at here x) x none) ∙ e in absurd (cc)
  | inr some ↦ (omega arith, ap pid_in (sym (name-pid (header_at here x) x (omega arith)) ∙ e))
]

pub local-named : (here : area.Heap) (x z : ℕ) → name_at here x ≡ name.Local z → (header_at here x).pid ≡ 0
local-named here x z e = elim (cases_eq (header_at here x).pid 0) [
  | inl none ↦ none
  | inr some ↦ let bad : name.Pid (header_at here x).pid ≡ name.Local z = sym (name-pid (header_at here x) x (omega arith)) ∙ e in absurd (cc)
]

pub local-place : (here : area.Heap) (x z : ℕ) → name_at here x ≡ name.Local z → x ≡ z
local-place here x z e = let same : name.Local x ≡ name.Local z = sym (name-none (header_at here x) x (local-named here x z e)) ∙ e in cc

pub pid-same : (old new : area.Heap) (x : ℕ) → name_at new x ≡ name_at old x → (header_at new x).pid ≡ (header_at old x).pid
pid-same old new x e = elim (cases_eq (header_at old x).pid 0) [
  | inl none ↦ local-named new x x (e ∙ name-none (header_at old x) x none) ∙ sym none
  | inr some ↦ (pid-named new x (header_at old x).pid (e ∙ name-pid (header_at old x) x (omega arith))).1
]

-- Nothing was gained.
pub gains-none : (here : area.Heap) (outside : Outside Space) → IsHeap here → Gains here here outside outside
gains-none here outside h = record {
  was_sound = h;
  sound = h;
  keeps = keeps-refl here;
  grows = λ n it s. s;
  came = λ x held. inl held;
  contents = record { kept = λ s is. is; no_other = λ s is. is };
}

-- An object whose name is known lay in the area, or came from the vault.
module _ (old new : area.Heap) (before after : Outside Space) (h : IsHeap old) (now : IsHeap new) (keeps : Keeps old new)
    (grows : Within (seen old before) (seen new after)) where
  pub known-came : (x : ℕ) → IsHeld new x → Known old before (name_at new x) → IsHeld old x ⊎ (Came old new before x ⊎ WasMade old new before x)
  known-came x held (inl nil) = absurd (name-not_nil new x nil)
  known-came x held (inr k) = of k.it k.is
    where
      same_pid : (a b : ℕ) → name.Pid a ≡ name.Pid b → a ≡ b
      same_pid a b e = cc

      of : (it : Shown) → seen old before (name_at new x) it → IsHeld old x ⊎ (Came old new before x ⊎ WasMade old new before x)
      of it (inl a) =
          let s = keeps.objects a.at a.held in
          inl (subst (IsHeld old) (sym (name_at-injective new x a.at now held s.held (a.name_is ∙ sym s.name))) a.held)
      of it (inr v) =
          let k = pid-named new x v.pid v.name_is in
          inr (inl (record {
            stored = k.0;
            away = ap (local_of old) k.1 ∙ v.away;
            words = v.words;
            there = subst (λ (q : ℕ). IsStored before q v.words) (sym k.1) v.there;
            shown = sym (seen-is new after x (name_at new x) it now held refl (grows (name_at new x) it (inr v))) ∙ v.shown_is;
          }))

-- A reading of names that are nil or known.
pub reads-gains : (old new : area.Heap) (before after : Outside Space) (touched : List reference.Reference) → IsHeap old → IsHeap new
    → AreKnown (seen old before) touched → Reads old new before after touched → Gains old new before after
reads-gains old new before after touched h now known r =
    let grows = reads-within old new before after touched r in
    record {
      was_sound = h;
      sound = now;
      keeps = r.keeps;
      grows = grows;
      came = λ x held. elim (r.only x held) [
        | inl was ↦ inl was
        | inr is ↦ known-came old new before after h now r.keeps grows x held (among-known (seen old before) (name_at new x) touched known is)
      ];
      contents = r.outside.contents;
    }

-- The making of an object that isn't stored, and has the counts of its kind.
pub made-gains : (old new : area.Heap) (outside : Outside Space) (at : ℕ) (o : Object) (contents : Contents) → IsHeap old → IsHeap new → IsInside old o
    → o.header.pid ≡ 0 → HasContents o.header contents → IsMade old new at o → Gains old new outside outside
made-gains old new outside at o contents h now inside no_pid whole m = record {
  was_sound = h;
  sound = now;
  keeps = made-keeps old new at o h m;
  grows = made-grows old new outside at o h inside no_pid m;
  came = λ x held. elim (held-cases old o x (subst (λ (n : area.Heap). IsHeld n x) m.made held)) [ inl was ↦ inl was | inr e ↦ inr (inr (new-at x e)) ];
  contents = record { kept = λ s is. is; no_other = λ s is. is };
}
  where
    new-at : (x : ℕ) → x ≡ top_of old → WasMade old new outside x
    new-at x e =
        let is : object_at new x ≡ o = ap (object_at new) (e ∙ sym m.place) ∙ made-object old new at o m in
        let none : (header_at new x).pid ≡ 0 = ap (λ (p : Object). p.header.pid) is ∙ no_pid in
        record {
          unstored = none;
          unseen = λ it s. name-fresh old (IsStored outside) it h
              (subst (λ (k : reference.Reference). seen old outside k it) (name-none (header_at new x) x none ∙ ap name.Local e) s);
          whole = (contents, subst (λ (p : Object). HasContents p.header contents) (sym is) whole);
        }

-- One gain after the other.

-- counts go by four parts of a header
contents-as : (a b : Header) (contents : Contents) → b.kind ≡ a.kind → b.refs ≡ a.refs → b.nums ≡ a.nums → b.bytes ≡ a.bytes → HasContents a contents → HasContents b contents
contents-as a b contents kinds refs nums bytes is = record {
  kind = kinds ∙ is.kind;
  counted = ap (λ (r : ℕ). counts r b.nums b.bytes) refs
      ∙ ap (λ (n : ℕ). counts a.refs n b.bytes) nums
      ∙ ap (counts a.refs a.nums) bytes ∙ is.counted;
  allowed = is.allowed;
}

module _ (a b c : area.Heap) (start mid end : Outside Space) (first : Gains a b start mid) (second : Gains b c mid end) where
  came-still : (x : ℕ) → IsHeld b x → Came a b start x → Came a c start x
  came-still x held k =
      let s = second.keeps.objects x held in
      let pids = pid-same b c x s.name in
      record {
        stored = subst (λ (p : ℕ). 1 ≤ p) (sym pids) k.stored;
        away = ap (local_of a) pids ∙ k.away;
        words = k.words;
        there = subst (λ (p : ℕ). IsStored start p k.words) (sym pids) k.there;
        shown = s.shown_as ∙ k.shown;
      }

  made-still : (x : ℕ) → IsHeld b x → WasMade a b start x → WasMade a c start x
  made-still x held k =
      let s = second.keeps.objects x held in record {
        unstored = pid-same b c x s.name ∙ k.unstored;
        unseen = λ it is. k.unseen it (subst (λ (n : reference.Reference). seen a start n it) s.name is);
        whole = (
          k.whole.0,
          contents-as (header_at b x) (header_at c x) k.whole.0 (ap (λ (it : Shown). it.kind) s.shown_as) s.refs s.nums (ap (λ (it : Shown). it.bytes) s.shown_as) k.whole.1,
        );
      }

  came-later : (x : ℕ) → Came b c mid x → Came a c start x
  came-later x k = record {
    stored = k.stored;
    away = still-away a b (header_at c x).pid first.sound first.keeps k.stored k.away;
    words = k.words;
    there = stored-stays mid start (header_at c x).pid k.words (record { kept = first.contents.no_other; no_other = first.contents.kept }) k.there;
    shown = k.shown;
  }

  made-later : (x : ℕ) → WasMade b c mid x → WasMade a c start x
  made-later x k = record { unstored = k.unstored; unseen = λ it is. k.unseen it (first.grows (name_at c x) it is); whole = k.whole }

  pub gains-then : Gains a c start end
  gains-then = record {
    was_sound = first.was_sound;
    sound = second.sound;
    keeps = keeps-trans a b c first.keeps second.keeps;
    grows = λ n it s. second.grows n it (first.grows n it s);
    came = λ x held. elim (second.came x held) [
      | inl between ↦ elim (first.came x between) [
        | inl was ↦ inl was
        | inr new ↦ elim new [ inl k ↦ inr (inl (came-still x between k)) | inr k ↦ inr (inr (made-still x between k)) ]
      ]
      | inr new ↦ elim new [ inl k ↦ inr (inl (came-later x k)) | inr k ↦ inr (inr (made-later x k)) ]
    ];
    contents = record {
      kept = λ s is. second.contents.kept s (first.contents.kept s is);
      no_other = λ s is. first.contents.no_other s (second.contents.no_other s is);
    };
  }

-- The same heap under the same names, where the area gained objects: so after a reading.
pub gains-stands : (old new : area.Heap) (before after : Outside Space) (of : Heap) (names : List reference.Reference) → Gains old new before after
    → IsWorld old before of names → Stands old new before after of names
gains-stands old new before after of names g w = record {
  world = record { row = row-within (seen old before) (seen new after) of names g.grows w.row };
  carries = keeps-carries old new before after names names g.keeps g.grows (λ n id p. p);
  gains = g;
}

pub reads-stands : (old new : area.Heap) (before after : Outside Space) (touched : List reference.Reference) (of : Heap)
    (names : List reference.Reference) → IsHeap old → IsHeap new → AreKnown (seen old before) touched → Reads old new before after touched
    → IsWorld old before of names → Stands old new before after of names
reads-stands old new before after touched of names h now known r w =
    gains-stands old new before after of names (reads-gains old new before after touched h now known r) w

-- and where nothing was done
pub nothing-done : (here : area.Heap) (outside : Outside Space) (of : Heap) (names : List reference.Reference) → IsHeap here → IsWorld here outside of names
    → Stands here here outside outside of names
nothing-done here outside of names h w = gains-stands here here outside outside of names (gains-none here outside h) w
