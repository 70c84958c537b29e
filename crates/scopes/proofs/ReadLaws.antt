-- A scope that was made, as it is read.
use Rattle.std.proofs.Common.{◌≡◌, ℕ, zero, suc, ◌+◌, ◌∷◌, replicate, get_or, slice_index, true, nat_eq, Option, Some, None, IfSome, refl, sym, ap, ◌∙◌, arith}
use Rattle.closures.specs.obj_layout.Kind.{kind_number}
use Rattle.closures.specs.obj_layout.declared.kind.Kind.TheVariants.{Scope}
use Rattle.closures.specs.obj_layout.declared.reference.Reference.TheVariants.{Nil, Local}
use Rattle.closures.specs.swizzle.Objects.{Object}
use Rattle.closures.specs.swizzle.Heap.{Heap, IsHeap, IsHeld, IsMade, header_at, reference_to}
use Rattle.closures.specs.swizzle.Joint.{shown_at, name_of}
use Rattle.closures.specs.swizzle.Touch.{Denotes}
use Rattle.closures.proofs.of_swizzle.MadeLaws.{made-held, made-object, made-other}
use Rattle.closures.specs.text_forms.declared.forms.Form.{Form}
use Rattle.closures.specs.text_forms.declared.forms.Form.TheVariants as form
use Rattle.closures.specs.text_forms.declared.forms.Rows.{Rows}
use Rattle.closures.specs.heap_places.Shapes.{slot_of, word_in}
use Rattle.closures.specs.heap_places.Words.{int_in, flag_in}
use Rattle.closures.specs.heap_places.Places.{Holds}
use Rattle.closures.proofs.of_heap_places.PlaceLaws.{slot-name}
use Rattle.closures.proofs.ShapeLaws as shape
use Rattle.scopes.specs.Making.{scope_object, first_value}
use Rattle.scopes.specs.Names.{scope_damage, index_of}
use Rattle.scopes.specs.Way.{way_damage}
use Rattle.scopes.proofs.WayLaws as way

-- What it is made of.

made-kind : (old new : Heap) (at names : ℕ) (parent : Option ℕ) (rows : Rows) → IsMade old new at (scope_object names parent rows)
    → nat_eq (kind_number (header_at new at).kind) 4 ≡ true
unfolding scope_object
made-kind old new at names parent rows made =
    ap (λ (o : Object). nat_eq (kind_number o.header.kind) 4) (made-object old new at (scope_object names parent rows) made)

made-refs : (old new : Heap) (at names : ℕ) (parent : Option ℕ) (rows : Rows) → IsMade old new at (scope_object names parent rows)
    → 2 + rows.refs ≡ (header_at new at).refs
unfolding scope_object
made-refs old new at names parent rows made = sym (ap (λ (o : Object). o.header.refs) (made-object old new at (scope_object names parent rows) made))

made-nums : (old new : Heap) (at names : ℕ) (parent : Option ℕ) (rows : Rows) → IsMade old new at (scope_object names parent rows)
    → 1 + rows.nums ≡ (header_at new at).nums
unfolding scope_object
made-nums old new at names parent rows made = sym (ap (λ (o : Object). o.header.nums) (made-object old new at (scope_object names parent rows) made))

pub scope-sound : (old new : Heap) (at names : ℕ) (parent : Option ℕ) (rows : Rows) → IsHeap new → IsMade old new at (scope_object names parent rows)
    → scope_damage (shown_at new at) rows ≡ None
scope-sound old new at names parent rows h made =
    shape.not-damaged new at Scope (2 + rows.refs) (1 + rows.nums) (2 + rows.refs) (1 + rows.nums) h
    (made-held old new at (scope_object names parent rows) made) (made-kind old new at names parent rows made)
    (made-refs old new at names parent rows made) refl (made-nums old new at names parent rows made) refl

pub scope-way : (old new : Heap) (at names : ℕ) (parent : Option ℕ) (rows : Rows) → IsHeap new → IsMade old new at (scope_object names parent rows)
    → way_damage (shown_at new at) ≡ None
scope-way old new at names parent rows h made =
    way.not-damaged new at (2 + rows.refs) h (made-held old new at (scope_object names parent rows) made)
    (made-kind old new at names parent rows made)
    (made-refs old new at names parent rows made) (omega arith)

-- Its slots.

slot-made : (old new : Heap) (at names slot : ℕ) (parent : Option ℕ) (rows : Rows) → IsMade old new at (scope_object names parent rows)
    → slot_of (shown_at new at) slot ≡ name_of new (get_or (Local names ∷ reference_to parent ∷ replicate rows.refs Nil) slot Nil)
unfolding scope_object
slot-made old new at names slot parent rows made =
    slot-name new at slot ∙ ap (λ (o : Object). name_of new (get_or o.refs slot Nil)) (made-object old new at (scope_object names parent rows) made)

pub scope-text : (old new : Heap) (at names : ℕ) (parent : Option ℕ) (rows : Rows) → IsMade old new at (scope_object names parent rows)
    → IsHeld old names
    → Denotes new (Some names) (slot_of (shown_at new at) 0)
scope-text old new at names parent rows made held = (
  (made-other old new at (scope_object names parent rows) names made held).0,
  sym (slot-made old new at names 0 parent rows made),
)

pub scope-parent : (old new : Heap) (at names : ℕ) (parent : Option ℕ) (rows : Rows) → IsMade old new at (scope_object names parent rows)
    → IfSome parent (IsHeld old) → Denotes new parent (slot_of (shown_at new at) 1)
scope-parent old new at names None rows made held = slot-made old new at names 1 None rows made
scope-parent old new at names (Some parent) rows made held = (
  (made-other old new at (scope_object names (Some parent) rows) parent made held).0,
  sym (slot-made old new at names 1 (Some parent) rows made),
)

-- What it keeps.

nil-among : (n slot : ℕ) → get_or (replicate n Nil) slot Nil ≡ Nil
nil-among zero slot = refl
nil-among (suc n) zero = refl
nil-among (suc n) (suc slot) = nil-among n slot

zero-among : (n index : ℕ) → slice_index (replicate n 0) index ≡ 0
zero-among zero index = refl
zero-among (suc n) zero = refl
zero-among (suc n) (suc index) = zero-among n index

word-made : (old new : Heap) (at names index : ℕ) (parent : Option ℕ) (rows : Rows) → IsMade old new at (scope_object names parent rows)
    → word_in (shown_at new at) index ≡ 0
unfolding scope_object
word-made old new at names index parent rows made =
    ap (λ (o : Object). slice_index o.nums index) (made-object old new at (scope_object names parent rows) made) ∙ zero-among (1 + rows.nums) index

nil-made : (old new : Heap) (at names index : ℕ) (parent : Option ℕ) (rows : Rows) → IsMade old new at (scope_object names parent rows)
    → slot_of (shown_at new at) (2 + index) ≡ Nil
nil-made old new at names index parent rows made =
    let next : 2 + index ≡ suc (suc index) = omega arith in
    ap (slot_of (shown_at new at)) next ∙ slot-made old new at names (suc (suc index)) parent rows made ∙ ap (name_of new) (nil-among rows.refs index)

pub keeps-first : (old new : Heap) (at names index : ℕ) (parent : Option ℕ) (rows : Rows) (f : Form)
    → IsMade old new at (scope_object names parent rows)
    → Holds new (shown_at new at) f (index_of (record { form = f; index = index })) (first_value f)
unfolding int_in flag_in
keeps-first old new at names index parent rows form.Number made = ap int_in (word-made old new at names (1 + index) parent rows made)
keeps-first old new at names index parent rows form.Flag made = ap flag_in (word-made old new at names (1 + index) parent rows made)
keeps-first old new at names index parent rows form.Reference made = nil-made old new at names index parent rows made
