-- What a slot of a closure denotes.
use Rattle.std.specs.Prelude.{◌≡◌, ◌⊎◌, ℕ, [], ◌∷◌, Option, Some, None, Result, Ok, Err}
use Rattle.heap_places.specs.ps_outside.Outside.{Outside}
use Rattle.heap_places.specs.obj_layout.Stored.{Space}
use Rattle.heap_places.specs.swizzle.declared.fault.SwizzleFault.{SwizzleFault}
use Rattle.heap_places.specs.swizzle.Heap.{Heap, ref_at}
use Rattle.heap_places.specs.swizzle.Joint.{shown_at}
use Rattle.heap_places.specs.swizzle.Touch.{Denotes, IsTouchFault}
use Rattle.heap_places.specs.swizzle.Reading.{Reads, FailsReading}
use Rattle.heap_places.specs.Shapes.{slot_of}
use Rattle.heap_places.specs.Places.{NamesDamage}
use Rattle.closures.specs.Closures.{IsNilSlot, closure_damage}

-- The slot denotes this object.
pub record IsOpened (old new : Heap) (before after : Outside Space) (at slot part : ℕ) : Type 0 where
  pub shape : closure_damage (shown_at old at) ≡ None
  pub denotes : Denotes new (Some part) (slot_of (shown_at old at) slot)
  pub reads : Reads old new before after (slot_of (shown_at old at) slot ∷ [])

-- It denotes this object or none; or the object is no closure, or what the slot denotes couldn't be fetched.
abbrev pub OpensSlot : Heap → Heap → Outside Space → Outside Space → ℕ → ℕ → Result (Option ℕ) SwizzleFault → Type 0
OpensSlot old new before after at slot (Ok (Some part)) = IsOpened old new before after at slot part
OpensSlot old new before after at slot (Ok None) = IsNilSlot old new before after at slot
OpensSlot old new before after at slot (Err fault) =
    FailsReading before after fault
    × (NamesDamage old at (closure_damage (shown_at old at)) fault
    ⊎ ((closure_damage (shown_at old at) ≡ None) × IsTouchFault old before (ref_at old at slot) fault))
