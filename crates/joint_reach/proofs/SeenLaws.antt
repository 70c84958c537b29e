-- What is seen of objects of the area, and the ids to which an object of the heap refers.
use Rattle.std.proofs.Common.{inl, inr, ◌≡◌, ℕ, zero, suc, ◌<◌, ◌≤◌, List, [], ◌∷◌, ◌++◌, length, map, get_or, refl, sym, ap, ◌∙◌, subst, arith, Some}
use Rattle.std.proofs.lemmas.Bool.{cases_eq}
use Rattle.joint_ops.specs.obj_layout.declared.reference.Reference.{Reference}
use Rattle.joint_ops.specs.obj_layout.declared.reference.Reference.TheVariants.{Nil, Pid, Local}
use Rattle.joint_ops.specs.swizzle.Heap.{Heap, IsHeap, IsHeld, object_at, header_at}
use Rattle.joint_ops.specs.swizzle.Joint.{Shown, name_at, name_of, shown_at, Joint}
use Rattle.swizzle.proofs.NameLaws.{name-pid, name-none, shown-counts}
use Rattle.joint_ops.specs.heap_meaning.node_rows.Nodes.{IsAmong}
use Rattle.joint_ops.specs.ps_heap.Objects.{Object}
use Rattle.joint_ops.specs.ps_heap.Scopes.{parent_in}
use Rattle.joint_ops.specs.ps_heap.References.{scope_ids, values_ids, values_of}
use Rattle.commit_walk.specs.Walk.{Goes}

-- the ids to which an object refers
abbrev pub ids_in : Object → List ℕ
ids_in object = scope_ids (parent_in (Some object)) ++ values_ids (values_of object)

pub local-none : (here : Heap) (y z : ℕ) → name_at here y ≡ Local z → ((header_at here y).pid ≡ 0) × (y ≡ z)
local-none here y z e =
    elim (cases_eq (header_at here y).pid 0) [
      | inl none ↦ let same : Local y ≡ Local z = sym (name-none (header_at here y) y none) ∙ e in (none, (cc))
      | inr some ↦ let bad : Pid (header_at here y).pid ≡ Local z = sym (name-pid (header_at here y) y (omega arith)) ∙ e in absurd (cc)
    ]

pub name-of_none : (here : Heap) (y : ℕ) → (header_at here y).pid ≡ 0 → name_at here y ≡ Local y
name-of_none here y none = name-none (header_at here y) y none

pub pid-some : (here : Heap) (y p : ℕ) → name_at here y ≡ Pid p → 1 ≤ (header_at here y).pid
pid-some here y p e =
    elim (cases_eq (header_at here y).pid 0) [
      | inl none ↦ let bad : Local y ≡ Pid p = sym (name-none (header_at here y) y none) ∙ e in absurd (cc)
      | inr some ↦ omega arith
    ]

pub among-at : (ns : List Reference) (slot : ℕ) → slot < length ns → IsAmong (get_or ns slot Nil) ns
among-at [] slot lt = omega arith
among-at (n ∷ ns) zero lt = inl refl
among-at (n ∷ ns) (suc slot) lt = inr (among-at ns slot (omega arith))

pub record Slot (ns : List Reference) (n : Reference) : Type 0 where
  pub slot : ℕ
  pub below : slot < length ns
  pub is : get_or ns slot Nil ≡ n

pub slot-of : (ns : List Reference) (n : Reference) → IsAmong n ns → Slot ns n
slot-of [] n k = elim k [ ]
slot-of (m ∷ ns) n (inl e) = record { slot = 0; below = omega arith; is = sym e }
slot-of (m ∷ ns) n (inr k) = let s = slot-of ns n k in record { slot = suc s.slot; below = omega (arith, s.below); is = s.is }

mapped_at : (f : Reference → Reference) (rs : List Reference) (slot : ℕ) → slot < length rs → get_or (map f rs) slot Nil ≡ f (get_or rs slot Nil)
mapped_at f [] slot lt = absurd (omega arith)
mapped_at f (r ∷ rs) zero lt = refl
mapped_at f (r ∷ rs) (suc slot) lt = mapped_at f rs slot (omega arith)

long_map : (f : Reference → Reference) (rs : List Reference) → length (map f rs) ≡ length rs
long_map f [] = refl
long_map f (r ∷ rs) = ap suc (long_map f rs)

-- a slot that names an object shows its name
pub goes-named : (here : Heap) (x y : ℕ) → IsHeap here → IsHeld here x → Goes here x y → IsAmong (name_at here y) (shown_at here x).refs
goes-named here x y h held g =
    let refs = (object_at here x).refs in
    let count = (shown-counts here x h held).0 in
    let long = long_map (name_of here) refs in
    let lt : g.slot < length refs = omega (arith, count, long, g.below) in
    let at = mapped_at (name_of here) refs g.slot lt ∙ g.names.is in
    subst (λ n. IsAmong n (map (name_of here) refs)) at (among-at (map (name_of here) refs) g.slot (omega (arith, lt, long)))

-- and an object of the area whose name is shown is gone to
pub named-goes : (here : Heap) (x y : ℕ) → IsHeap here → IsHeld here x → IsHeld here y → IsAmong (name_at here y) (shown_at here x).refs → Goes here x y
named-goes here x y h held to k =
    let refs = (object_at here x).refs in
    let s = slot-of (map (name_of here) refs) (name_at here y) k in
    let count = (shown-counts here x h held).0 in
    let long = long_map (name_of here) refs in
    let lt : s.slot < length refs = omega (arith, s.below, long) in
    record { slot = s.slot; below = omega (arith, s.below, count, long); names = record { held = to; is = sym (mapped_at (name_of here) refs s.slot lt) ∙ s.is } }

-- a name without a PID that has an object is that of an object of the area
pub local-known : (here : Heap) (holds : ℕ → List ℕ → Type 0) (z : ℕ) (it : Shown) → Joint here holds (Local z) it
    → IsHeld here z × (name_at here z ≡ Local z) × (it ≡ shown_at here z)
local-known here holds z it (inl a) =
    let k = local-none here a.at z (sym a.name_is) in
    (subst (IsHeld here) k.1 a.held, subst (λ w. name_at here w ≡ Local w) k.1 (name-of_none here a.at k.0), a.shown_is ∙ ap (shown_at here) k.1)
local-known here holds z it (inr v) = let bad : Local z ≡ Pid v.pid = v.name_is in absurd (cc)

pub nil-unknown : (here : Heap) (holds : ℕ → List ℕ → Type 0) (it : Shown) → Joint here holds Nil it → ⊥
nil-unknown here holds it (inl a) =
    elim (cases_eq (header_at here a.at).pid 0) [
      | inl none ↦ let bad : Nil ≡ Local a.at = a.name_is ∙ name-none (header_at here a.at) a.at none in absurd (cc)
      | inr some ↦ let bad : Nil ≡ Pid (header_at here a.at).pid = a.name_is ∙ name-pid (header_at here a.at) a.at (omega arith) in absurd (cc)
    ]
nil-unknown here holds it (inr v) = let bad : Nil ≡ Pid v.pid = v.name_is in absurd (cc)

pub known : (here : Heap) (holds : ℕ → List ℕ → Type 0) (x : ℕ) → IsHeld here x → Joint here holds (name_at here x) (shown_at here x)
known here holds x held = inl (record { at = x; held = held; name_is = refl; shown_is = refl })
