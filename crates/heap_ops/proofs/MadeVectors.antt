-- A vector that was made is there.
use Rattle.std.proofs.Common.{ℕ, ℤ, Bool, true, false, List, Some, Ok, Err}
use Rattle.std.specs.Prelude.{Result, IfOk}
use Rattle.heap_places.specs.obj_layout.declared.kind.Kind.TheVariants.{Vector}
use Rattle.heap_places.specs.swizzle.Heap.{Heap, IsHeld}
use Rattle.heap_places.proofs.of_swizzle.MadeLaws.{made-held}
use Rattle.heap_places.specs.heap_texts.declared.fault.OpFault.{OpFault}
use Rattle.heap_places.specs.declared.value.Value.{Value}
use Rattle.heap_places.specs.Filling.{filled}
use Rattle.heap_ops.specs.Vectors.{MakesVector}

pub vector-held : (old new : Heap) (ty : ℕ) (low : ℤ) (values : List Value) (fits : Bool) (r : Result ℕ OpFault)
    → MakesVector old new ty low values fits r → IfOk r (IsHeld new)
vector-held old new ty low values true (Ok at) made = made-held old new at (filled Vector ty (Some low) values) made
vector-held old new ty low values true (Err fault) made = tt
vector-held old new ty low values false (Ok at) failed = let never = failed.0 in absurd (cc)
vector-held old new ty low values false (Err fault) failed = tt
