-- Values in code, whose objects lie in the area, denote values of the meaning.
use Rattle.std.specs.Prelude.{◌≡◌, ℕ, Option}
use Rattle.proc_values.specs.obj_layout.declared.reference.Reference as reference
use Rattle.proc_values.specs.swizzle.Heap.{Heap}
use Rattle.proc_values.specs.swizzle.Touch.{Denotes}
use Rattle.heap_ops.specs.heap_places.declared.value.Value as code
use Rattle.heap_ops.specs.heap_places.declared.value.Value.TheVariants as held
use Rattle.proc_values.specs.ps_heap.Values.{Value, Num, Flag}
use Rattle.heap_meaning.specs.Standing.{Seen, Pairing, StandsForScope, StandsFor}

-- an object of the area, or none, by a name that stands for a value
pub record DenotesValue (heap : Heap) (seen : Seen) (pair : Pairing) (to : Option ℕ) (v : Value) : Type 0 where
  pub name : reference.Reference
  pub denotes : Denotes heap to name
  pub stands : StandsFor seen pair name v

-- an object of the area, or none, by a name that stands for a scope, or for none
pub record DenotesScope (heap : Heap) (seen : Seen) (pair : Pairing) (to scope : Option ℕ) : Type 0 where
  pub name : reference.Reference
  pub denotes : Denotes heap to name
  pub stands : StandsForScope seen pair name scope

-- a value in code denotes one of the meaning
abbrev pub IsFor : Heap → Seen → Pairing → code.Value → Value → Type 0
IsFor heap seen pair (held.Num z) (Num w) = z ≡ w
IsFor heap seen pair (held.Flag b) (Flag c) = b ≡ c
IsFor heap seen pair (held.Ref to) v = DenotesValue heap seen pair to v
IsFor heap seen pair _ _ = ⊥
