-- Entries that are so.
use Rattle.std.proofs.Common.{inl, inr, ◌≡◌, ℕ, zero, suc, ◌<◌, ◌≤◌, ◌^◌, ◌⊎◌, List, [], ◌∷◌, length, set, replicate, get_or, take, ◌++◌, Some, sym, ap, ◌∙◌, arith, subst}
use Rattle.heap_places.specs.swizzle.Heap.{Heap, IsHeap, IsHeld, object_at, header_at}
use Rattle.heap_places.specs.swizzle.Text.{text_at}
use Rattle.heap_places.specs.swizzle.Reading.{TextsStay}
use Rattle.heap_places.proofs.of_swizzle.ObjectLaws.{split}
use Rattle.heap_places.proofs.of_swizzle.KeptLaws.{held_is}
use Rattle.heap_places.specs.text_forms.Forms.{forms_of, located_in}
use Rattle.heap_ops.specs.declared.layouts.Entry.{Entry}
use Rattle.heap_ops.specs.Layouts.{IsSo, AreSo}

-- a text begins at 1 or beyond, and its bytes are counted in 32 bits
pub held-from : (heap : Heap) (at : ℕ) → IsHeap heap → IsHeld heap at → (1 ≤ at) × ((header_at heap at).bytes < 2 ^ 32)
held-from heap at h held =
    let parts = split 1 heap.objects at (object_at heap at) h.fit (held_is heap at held) in
    (omega (arith, parts.place), parts.fit.fields.bytes)

stay : (old new : Heap) (entry : Entry) → TextsStay old new → (entry.class ≡ 0) ⊎ IsSo old entry → (entry.class ≡ 0) ⊎ IsSo new entry
stay old new entry texts (inl none) = inl none
stay old new entry texts (inr so) =
    let t = texts entry.class so.held so.kind in
    inr (record { held = t.held; kind = t.kind; place = ap (λ (text : List ℕ). located_in (forms_of text) entry.field) t.bytes ∙ so.place })

pub stay_so : (old new : Heap) (entries : List Entry) → AreSo old entries → TextsStay old new → AreSo new entries
stay_so old new [] so texts = tt
stay_so old new (entry ∷ entries) so texts = (stay old new entry texts so.0, stay_so old new entries so.1 texts)

none_so : (heap : Heap) (n : ℕ) (entry : Entry) → entry.class ≡ 0 → AreSo heap (replicate n entry)
none_so heap zero entry none = tt
none_so heap (suc n) entry none = (inl none, none_so heap n entry none)

pub put_so : (heap : Heap) (entries : List Entry) (index : ℕ) (entry : Entry) → AreSo heap entries → IsSo heap entry → AreSo heap (set entries index entry)
put_so heap [] index entry so is = tt
put_so heap (e ∷ es) zero entry so is = (inr is, so.1)
put_so heap (e ∷ es) (suc index) entry so is = (so.0, put_so heap es index entry so.1 is)

found_so : (heap : Heap) (entries : List Entry) (index : ℕ) (entry : Entry) → AreSo heap entries → index < length entries
    → entry ≡ get_or entries index entry → (entry.class ≡ 0) ⊎ IsSo heap entry
found_so heap [] index entry so below e = absurd (omega arith)
found_so heap (x ∷ xs) zero entry so below e = subst (λ (y : Entry). (y.class ≡ 0) ⊎ IsSo heap y) (sym e) so.0
found_so heap (x ∷ xs) (suc index) entry so below e = found_so heap xs index entry so.1 (omega (arith, below)) e

pub known_so : (heap : Heap) (entries : List Entry) (index class field : ℕ) (entry : Entry) → AreSo heap entries → index < length entries
    → entry ≡ get_or entries index entry → entry.class ≡ class → entry.field ≡ field → 1 ≤ class
    → located_in (forms_of (text_at heap class)) field ≡ Some entry.located
known_so heap entries index class field entry so below found same number some = elim (found_so heap entries index entry so below found) [
  | inl none ↦ absurd (omega (arith, none, same, some))
  | inr is ↦ ap (λ (n : ℕ). located_in (forms_of (text_at heap n)) field) (sym same) ∙ ap (located_in (forms_of (text_at heap entry.class))) (sym number)
      ∙ is.place
]

-- entries that were put after none
pub fresh_so : (heap : Heap) (items before : List Entry) (n : ℕ) (entry : Entry) → before ≡ [] → entry.class ≡ 0
    → items ≡ take 256 before ++ replicate n entry → AreSo heap items
fresh_so heap items before n entry empty none is =
    let all : items ≡ replicate n entry = is ∙ ap (λ (x : List Entry). take 256 x ++ replicate n entry) empty in
    subst (AreSo heap) (sym all) (none_so heap n entry none)

pub cleared_so : (heap : Heap) (items : List Entry) (n : ℕ) (entry : Entry) → entry.class ≡ 0 → items ≡ replicate n entry → AreSo heap items
cleared_so heap items n entry none is = subst (AreSo heap) (sym is) (none_so heap n entry none)
