-- A unit weighs what its objects' words do.
use Rattle.std.proofs.Common.{◌≡◌, ◌+◌, ◌≤◌, arith}
use Rattle.std.specs.Prelude.{◌*◌}
use Rattle.proc_values.specs.ps_base.CodeUnit.{UnitView, unit, ConstantsView, no_constants, constant_then, text, literal}
use Rattle.ps_gen.specs.Units.{unit_of}
use Rattle.proc_values.specs.ps_heap.Values.{Routine, as_written, as_compiled}
use Rattle.proc_values.specs.ps_heap.Weights.{unit_weight, constants_weight, routine_weight}
use Rattle.proc_values.specs.Units.{count_of, unit_words, constants_words, constant_words}
use Rattle.ps_unit_weights.specs.Weights.{weight_as_unit}
use Rattle.ps_unit_weights.proofs.Weighing.{text_weighs, unit_weighs}

mutual
  unfolding unit_weight unit_words constants_weight constants_words constant_words count_of

  pub unit_is : (u : UnitView) → unit_weight u ≡ 8 * unit_words u
  unit_is (unit code constants frame) = let h = constants_are constants in omega arith

  constants_are : (cs : ConstantsView) → constants_weight cs ≡ 8 * constants_words cs + 8 * count_of cs
  constants_are no_constants = omega arith
  constants_are (constant_then (text bytes) rest) = let t = text_weighs bytes in let h = constants_are rest in omega arith
  constants_are (constant_then (literal code) rest) = let u = unit_is code in let h = constants_are rest in omega arith

pub lighter : (does : Routine) → weight_as_unit does ≤ routine_weight does
lighter (as_written of) = let u = unit_is (unit_of of) in let w = unit_weighs of in omega arith
lighter (as_compiled of) = omega arith
