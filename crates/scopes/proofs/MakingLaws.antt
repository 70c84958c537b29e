-- A new scope, whose first slots are written.
use Rattle.std.proofs.Common.{◌≡◌, ℕ, suc, ◌+◌, ◌≤◌, ◌^◌, List, ◌∷◌, length, set, replicate, Option, ap, arith, subst}
use Rattle.closures.specs.obj_layout.Header.{HasFitLengths}
use Rattle.closures.specs.obj_layout.declared.kind.Kind.TheVariants.{Scope}
use Rattle.closures.specs.obj_layout.declared.reference.Reference.{Reference}
use Rattle.closures.specs.obj_layout.declared.reference.Reference.TheVariants.{Nil, Local}
use Rattle.closures.specs.swizzle.declared.fault.SwizzleFault.{SwizzleFault}
use Rattle.closures.specs.swizzle.Objects.{Object, size_of, size_of_all}
use Rattle.closures.specs.swizzle.Heap.{Heap, IsHeap, IsHeld, IsMade, IsFull, object_at, header_at, with_ref, reference_to, blank}
use Rattle.closures.proofs.of_swizzle.ObjectLaws.{Split, split, size_of_all-append}
use Rattle.closures.proofs.of_swizzle.KeptLaws.{held_is}
use Rattle.closures.specs.text_forms.declared.forms.Rows.{Rows}
use Rattle.closures.specs.text_forms.Forms.{forms_of, rows_of}
use Rattle.closures.proofs.of_text_forms.Passing.{few}
use Rattle.closures.proofs.of_text_forms.Places.{counted}
use Rattle.closures.proofs.of_heap_places.FillingLaws.{roomy-held, made-ref}
use Rattle.scopes.specs.Making.{scope_object, scope_words}

-- The text of an area names few places.

size-within : (os : List Object) (i : ℕ) (o : Object) → Split 1 os i o → size_of o ≤ size_of_all os
size-within os i o s = omega (arith, ap size_of_all s.is, size_of_all-append s.front (o ∷ s.back))

bytes-few : (heap : Heap) (at : ℕ) → IsHeap heap → IsHeld heap at → (header_at heap at).bytes ≤ 2 ^ 28
bytes-few heap at h held =
    let s = split 1 heap.objects at (object_at heap at) h.fit (held_is heap at held) in
    omega (arith, s.fit.lengths.bytes, size-within heap.objects at (object_at heap at) s, h.within, h.small)

pub places-few : (heap : Heap) (at : ℕ) (text : List ℕ) (rows : Rows) → IsHeap heap → IsHeld heap at → length text ≡ (header_at heap at).bytes
    → rows ≡ rows_of (forms_of text) → rows.refs + rows.nums ≤ 2 ^ 28
places-few heap at text rows h held long is =
    omega (arith, few text, counted (forms_of text), ap (λ (r : Rows). r.refs + r.nums) is, long, bytes-few heap at h held)

pub scope-lengths : (rows : Rows) → rows.refs + rows.nums ≤ 2 ^ 28 → HasFitLengths (blank Scope (2 + rows.refs) (1 + rows.nums) 0).header
scope-lengths rows le = record { bytes = omega arith; words = omega (arith, le) }

-- Its two slots were written.

pub blank-held : (old mid : Heap) (at r n : ℕ) → IsMade old mid at (blank Scope r n 0) → IsHeld mid at × ((header_at mid at).refs ≡ r)
blank-held old mid at r n made =
    let there = roomy-held old mid at (blank Scope r n 0) made in
    (there.0, ap (λ (o : Object). o.header.refs) there.1)

abbrev slots : ℕ → ℕ → List Reference → Object
slots r n refs = record (blank Scope r n 0) { refs = refs }

laid-slots : (names : ℕ) (parent : Option ℕ) (rows : Rows)
    → slots (2 + rows.refs) (1 + rows.nums) (set (set (replicate (2 + rows.refs) Nil) 0 (Local names)) 1 (reference_to parent))
    ≡ scope_object names parent rows
unfolding scope_object
laid-slots names parent rows =
    let next : 2 + rows.refs ≡ suc (suc rows.refs) = omega arith in
    ap (λ (x : ℕ). slots (2 + rows.refs) (1 + rows.nums) (set (set (replicate x Nil) 0 (Local names)) 1 (reference_to parent))) next

pub scope-made : (old mid ref new : Heap) (at names : ℕ) (parent : Option ℕ) (rows all : Rows) → rows ≡ all
    → IsMade old mid at (blank Scope (2 + rows.refs) (1 + rows.nums) 0)
    → ref ≡ with_ref mid at 0 (Local names) → new ≡ with_ref ref at 1 (reference_to parent) → IsMade old new at (scope_object names parent all)
scope-made old mid ref new at names parent rows all is made first second =
    let first_made = made-ref old mid ref at 0 (blank Scope (2 + rows.refs) (1 + rows.nums) 0) (Local names) made first in
    let both = made-ref old ref new at 1 (slots (2 + rows.refs) (1 + rows.nums) (set (replicate (2 + rows.refs) Nil) 0 (Local names)))
    (reference_to parent) first_made second in
    subst (λ (r : Rows). IsMade old new at (scope_object names parent r)) is
    (subst (λ (o : Object). IsMade old new at o) (laid-slots names parent rows) both)

-- There was no room.
pub scope-full : (old new : Heap) (rows all : Rows) (fault : SwizzleFault) → rows ≡ all → IsFull old new (4 + (2 + rows.refs) + (1 + rows.nums)) fault
    → IsFull old new (scope_words all) fault
unfolding scope_words
scope-full old new rows all fault is full = subst (λ (r : Rows). IsFull old new (4 + (2 + r.refs) + (1 + r.nums)) fault) is full
