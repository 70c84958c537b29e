-- A closure that was made, as it is read.
use Rattle.std.proofs.Common.{◌≡◌, ℕ, Option, Some, None, IfSome, sym, ap}
use Rattle.heap_places.specs.swizzle.Heap.{Heap, IsHeld, IsMade}
use Rattle.heap_places.specs.swizzle.Joint.{Shown, shown, shown_at, name_of}
use Rattle.heap_places.specs.swizzle.Touch.{Denotes}
use Rattle.heap_places.proofs.of_swizzle.MadeLaws.{made-object, made-other}
use Rattle.heap_places.specs.Shapes.{slot_of, shape_damage}
use Rattle.closures.specs.Closures.{closure_damage, closure_of}

made-shown : (old new : Heap) (at code : ℕ) (scope : Option ℕ) → IsMade old new at (closure_of code scope)
    → shown_at new at ≡ shown (name_of new) (closure_of code scope)
made-shown old new at code scope made = ap (shown (name_of new)) (made-object old new at (closure_of code scope) made)

pub closure-sound : (old new : Heap) (at code : ℕ) (scope : Option ℕ) → IsMade old new at (closure_of code scope)
    → closure_damage (shown_at new at) ≡ None
unfolding closure_of shape_damage
closure-sound old new at code scope made = ap closure_damage (made-shown old new at code scope made)

pub closure-code : (old new : Heap) (at code : ℕ) (scope : Option ℕ) → IsMade old new at (closure_of code scope) → IsHeld old code
    → Denotes new (Some code) (slot_of (shown_at new at) 0)
unfolding closure_of
closure-code old new at code scope made held = (
  (made-other old new at (closure_of code scope) code made held).0,
  sym (ap (λ (it : Shown). slot_of it 0) (made-shown old new at code scope made)),
)

pub closure-scope : (old new : Heap) (at code : ℕ) (scope : Option ℕ) → IsMade old new at (closure_of code scope) → IfSome scope (IsHeld old)
    → Denotes new scope (slot_of (shown_at new at) 1)
unfolding closure_of
closure-scope old new at code None made held = ap (λ (it : Shown). slot_of it 1) (made-shown old new at code None made)
closure-scope old new at code (Some scope) made held = (
  (made-other old new at (closure_of code (Some scope)) scope made held).0,
  sym (ap (λ (it : Shown). slot_of it 1) (made-shown old new at code (Some scope) made)),
)
