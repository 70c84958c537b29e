-- What came into the area, one step after another.
use Rattle.std.proofs.Common.{◌≡◌, ◌⊎◌, ℕ, Option, Some, None, length, refl, sym, ap, ◌∙◌, subst, arith, inl, inr}
use Rattle.heap_places.specs.ps_outside.Outside.{Outside, SameContents}
use Rattle.heap_places.specs.obj_layout.Stored.{Space, Holds}
use Rattle.heap_places.specs.obj_layout.declared.reference.Reference.{Reference}
use Rattle.heap_places.specs.obj_layout.declared.reference.Reference.TheVariants.{Nil, Pid, Local}
use Rattle.heap_places.specs.swizzle.Heap.{Heap, IsHeap, IsHeld, IsListed, header_at, local_of, reference_to}
use Rattle.heap_places.specs.swizzle.Joint.{Shown, name_at, name_of, shown_at, shown_words}
use Rattle.heap_places.specs.swizzle.Changes.{Within}
use Rattle.heap_places.specs.swizzle.Reading.{joint}
use Rattle.heap_places.specs.swizzle.Touch.{Keeps, Only, Stays}
use Rattle.heap_places.specs.Shapes.{slot_of}
use Rattle.heap_places.proofs.of_swizzle.FetchedLaws.{local-place}
use Rattle.heap_places.proofs.of_swizzle.NameLaws.{name_at-injective, name-pid, name-none, pid_in, shown-counts}
use Rattle.heap_places.proofs.of_swizzle.of_obj_layout.StoredLaws.{Holds-low}
use Rattle.std.proofs.lemmas.Bool.{cases_eq}
use Rattle.node_rows.specs.Keys.{Keys}
use Rattle.table_nodes.specs.Nodes.{IsStored, seen, Grows}
use Rattle.table_nodes.specs.Bringing.{NoneCome}
use Rattle.table_nodes.specs.Sparing.{Lasts, Spares, IsNoted}
use Rattle.table_nodes.specs.Fetching.{Arrived, Arrives, Came, IsNew, Fetches}
use Rattle.table_nodes.proofs.NodeLaws.{seen_held}
use Rattle.table_nodes.proofs.SeenLaws.{IsSeen, seen_joint, still_away, stored_stays}
use Rattle.table_nodes.proofs.Sparing.{node_lasts, spares_touched}

-- the PID in the header is the one of the name
pub pid_named : (heap : Heap) (at : ℕ) → pid_in (name_at heap at) ≡ (header_at heap at).pid
unfolding pid_in
pid_named heap at = elim (cases_eq (header_at heap at).pid 0) [
  | inl none ↦ ap pid_in (name-none (header_at heap at) at none) ∙ sym none
  | inr some ↦ ap pid_in (name-pid (header_at heap at) at (omega arith))
]

pub pid_lasts : (a b : Heap) (at : ℕ) → Lasts a b at → (header_at b at).pid ≡ (header_at a at).pid
pid_lasts a b at l = sym (pid_named b at) ∙ (ap pid_in l.name ∙ pid_named a at)

pub fetches_none : (ks : Keys) (a b : Heap) (x : Outside Space) → NoneCome a b → Fetches ks a b x
fetches_none ks a b x none at held = inl (none at held)

pub fetches_same : (ks : Keys) (a b : Heap) (x : Outside Space) → b ≡ a → Fetches ks a b x
fetches_same ks a b x e at held = inl (subst (λ (h : Heap). IsHeld h at) e held)

-- what is seen under the PID of an object that came
arrived_from : (old new : Heap) (a b : Outside Space) (pid at : ℕ) (it : Shown) → IsHeap new → Keeps old new → Within (joint old a) (joint new b) → IsHeld new at → name_at new at ≡ Pid pid → seen old a (Pid pid) it → IsHeld old at ⊎ Arrived old new a at
unfolding pid_in
arrived_from old new a b pid at it h keeps grows held e (inl k) =
    let s = keeps.objects k.at k.held in
    inl (subst (IsHeld old) (sym (name_at-injective new at k.at h held s.held (e ∙ (k.name_is ∙ sym s.name)))) k.held)
arrived_from old new a b pid at it h keeps grows held e (inr v) =
    let same : (header_at new at).pid ≡ pid = sym (pid_named new at) ∙ ap pid_in e in
    let pids : v.pid ≡ (header_at new at).pid = ap pid_in (sym v.name_is) ∙ sym same in
    let now = seen_held new (Holds b) at it h held (subst (λ n. joint new b n it) (sym e) (grows (Pid pid) it (seen_joint old a (Pid pid) it (inr v)))) in
    let low = Holds-low a v.pid v.words v.there.there in
    inr (record {
      stored = omega (arith, low, pids);
      away = subst (λ p. local_of old p ≡ None) pids v.away;
      words = v.words;
      there = subst (λ p. IsStored a p v.words) pids v.there;
      shown = sym now ∙ v.shown_is;
    })

pub arrives_none : (heap : Heap) (x : Outside Space) → Arrives heap heap x
arrives_none heap x at held = inl held

arrives_same : (old new : Heap) (x : Outside Space) → new ≡ old → Arrives old new x
arrives_same old new x e at held = inl (subst (λ (h : Heap). IsHeld h at) e held)

-- The object of a reference was touched, which is seen if the reference is a PID.
pub touch_arrives : (old new : Heap) (a b : Outside Space) (reference : Reference) → IsHeap new → Keeps old new → Within (joint old a) (joint new b) → Only old new (name_of old reference)
    → ((to : Option ℕ) → reference ≡ reference_to to → new ≡ old) → IsSeen old a (name_of old reference) → Arrives old new a
touch_arrives old new a b Nil h keeps grows only still known = arrives_same old new a (still None refl)
touch_arrives old new a b (Local z) h keeps grows only still known = arrives_same old new a (still (Some z) refl)
touch_arrives old new a b (Pid pid) h keeps grows only still known = λ at held. elim (only at held) [
  | inl was ↦ inl was
  | inr e ↦ let k = known pid refl in arrived_from old new a b pid at k.it h keeps grows held e k.is
]

-- what arrived is there still, where objects of the area stay
arrived_still : (a b c : Heap) (x : Outside Space) (at : ℕ) → Stays b c at → Arrived a b x at → Arrived a c x at
arrived_still a b c x at s k =
    let pids : (header_at c at).pid ≡ (header_at b at).pid = sym (pid_named c at) ∙ (ap pid_in s.name ∙ pid_named b at) in
    record {
      stored = (let low = k.stored in omega (arith, low, pids));
      away = subst (λ p. local_of a p ≡ None) (sym pids) k.away;
      words = k.words;
      there = subst (λ p. IsStored x p k.words) (sym pids) k.there;
      shown = s.shown_as ∙ k.shown;
    }

-- two readings
pub arrives_then : (a b c : Heap) (x y z : Outside Space) → Grows a b x y → Grows b c y z → Arrives a b x → Arrives b c y → Arrives a c x
arrives_then a b c x y z f g first second at held = elim (second at held) [
  | inl there ↦ elim (first at there) [
    | inl was ↦ inl was
    | inr k ↦ inr (arrived_still a b c x at (g.keeps.objects at there) k)
  ]
  | inr k ↦ inr (record {
    stored = k.stored;
    away = still_away a b (header_at c at).pid f.heap f.keeps k.stored k.away;
    words = k.words;
    there = stored_stays y x (header_at c at).pid k.words (record { kept = f.leaves.contents.no_other; no_other = f.leaves.contents.kept }) k.there;
    shown = k.shown;
  })
]

-- what a reading fetches, as a change tells it
pub arrives_fetches : (ks : Keys) (old new : Heap) (x : Outside Space) → IsHeap new → Arrives old new x → Fetches ks old new x
arrives_fetches ks old new x h came at held = elim (came at held) [
  | inl was ↦ inl was
  | inr k ↦ inr (inl (came_as k))
]
  where
    came_as : Arrived old new x at → Came new x at
    came_as k =
        let counts = shown-counts new at h held in
        record {
          stored = k.stored;
          words = k.words;
          there = k.there;
          kind = ap (λ (s : Shown). s.kind) k.shown;
          refs = sym counts.0 ∙ ap (λ (s : Shown). length s.refs) k.shown;
          nums = sym counts.1 ∙ ap (λ (s : Shown). length s.nums) k.shown;
          bytes = ap (λ (s : Shown). s.bytes) k.shown;
          text = ap (λ (s : Shown). slot_of s 2) k.shown;
          shown = inl k.shown;
        }

-- What came or was made is so still, where objects are written.
pub came_lasts : (a b : Heap) (x : Outside Space) (at : ℕ) → Lasts a b at → slot_of (shown_at b at) 2 ≡ slot_of (shown_at a at) 2 → (shown_at b at ≡ shown_at a at) ⊎ IsNoted b at → (IsListed at a.assigned → IsListed at b.assigned)
    → Came a x at → Came b x at
came_lasts a b x at l text kept noted c =
    let pids = pid_lasts a b at l in
    record {
      stored = (let low = c.stored in omega (arith, low, pids));
      words = c.words;
      there = subst (λ p. IsStored x p c.words) (sym pids) c.there;
      kind = l.kind ∙ c.kind;
      refs = l.refs ∙ c.refs;
      nums = l.nums ∙ c.nums;
      bytes = l.bytes ∙ c.bytes;
      text = text ∙ c.text;
      shown = go c.shown kept;
    }
  where
    go : (shown_at a at ≡ shown_words c.words) ⊎ IsNoted a at → (shown_at b at ≡ shown_at a at) ⊎ IsNoted b at → (shown_at b at ≡ shown_words c.words) ⊎ IsNoted b at
    go (inl e) (inl d) = inl (d ∙ e)
    go (inr n) (inl d) = inr (node_lasts a b at l n.0, noted n.1)
    go (inl e) (inr m) = inr m
    go (inr n) (inr m) = inr m

pub new_lasts : (ks : Keys) (a b : Heap) (at : ℕ) → Lasts a b at → slot_of (shown_at b at) 2 ≡ slot_of (shown_at a at) 2 → IsNew ks a at → IsNew ks b at
new_lasts ks a b at l text n = record { node = node_lasts a b at l n.node; unstored = pid_lasts a b at l ∙ n.unstored; bytes = l.bytes ∙ n.bytes; plain = λ e. text ∙ n.plain e }

pub fetches_then : (ks : Keys) (a b c : Heap) (x y z : Outside Space) → SameContents x y → Spares b c y z → Fetches ks a b x → Fetches ks b c y → Fetches ks a c x
fetches_then ks a b c x y z same s f g at held = elim (g at held) [
  | inl there ↦ elim (f at there) [
    | inl was ↦ inl was
    | inr (inl k) ↦ inr (inl (came_lasts b c x at (s.lasts at there) (s.texts at there) (s.kept at there) (s.noted at) k))
    | inr (inr n) ↦ inr (inr (new_lasts ks b c at (s.lasts at there) (s.texts at there) n))
  ]
  | inr (inl k) ↦ inr (inl (record {
    stored = k.stored;
    words = k.words;
    there = stored_stays y x (header_at c at).pid k.words (record { kept = same.no_other; no_other = same.kept }) k.there;
    kind = k.kind;
    refs = k.refs;
    nums = k.nums;
    bytes = k.bytes;
    text = k.text;
    shown = k.shown;
  }))
  | inr (inr n) ↦ inr (inr n)
]

-- two readings
pub fetches_read : (ks : Keys) (a b c : Heap) (x y z : Outside Space) → Grows a b x y → Grows b c y z → Fetches ks a b x → Fetches ks b c y → Fetches ks a c x
fetches_read ks a b c x y z f g = fetches_then ks a b c x y z f.leaves.contents (spares_touched b c y z g.keeps g)

-- An object that came, and wasn't in the area, has a PID that no object of the area had.
pub came_away : (old new : Heap) (x : Outside Space) (at : ℕ) → IsHeap new → ((i : ℕ) → IsHeld old i → Lasts old new i) → IsHeld new at → Came new x at → IsHeld old at ⊎ (local_of old (header_at new at).pid ≡ None)
came_away old new x at h lasts held c = cases (local_of old (header_at new at).pid) refl
  where
    named : name_at new at ≡ Pid (header_at new at).pid
    named = (let low = c.stored in name-pid (header_at new at) at (omega (arith, low)))

    cases : (o : Option ℕ) → local_of old (header_at new at).pid ≡ o → IsHeld old at ⊎ (local_of old (header_at new at).pid ≡ None)
    cases None e = inr e
    cases (Some i) e =
        let l = local-place old (header_at new at).pid i c.stored e in
        let stays = lasts i l.held in
        inl (subst (IsHeld old) (name_at-injective new i at h stays.held held (stays.name ∙ (l.name ∙ sym named))) l.held)
