-- What the code of a procedure weighs where a program runs: what its unit does.
use Rattle.std.specs.Prelude.{ℕ}
use Rattle.ps_gen.specs.Units.{unit_of}
use Rattle.proc_values.specs.ps_heap.Values.{Routine, as_written, as_compiled}
use Rattle.proc_values.specs.ps_heap.Weights.{unit_weight}

abbrev pub weight_as_unit : Routine → ℕ
weight_as_unit (as_written of) = unit_weight (unit_of of)
weight_as_unit (as_compiled of) = unit_weight of
