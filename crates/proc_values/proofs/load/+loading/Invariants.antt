-- The measures of what goes over a unit, and what the loop keeps.
use Rattle.std.proofs.Common.{◌+◌, ◌*◌, drop}
use Rattle.ps_base.specs.CodeUnit.{constant_view, constants_view, unit_view}
use Rattle.heap_texts.specs.swizzle.Heap.{top_of}
use Rattle.proc_values.specs.Units.{constants_objects, unit_words, constants_words, constant_words}
use Rattle.proc_values.specs.Loaded.{AreFitConstants}
use Rattle.proc_values.specs.inside.Loading.{SoFar}
use Rattle.proc_values.proofs.load.+loading.Given as goal

abbrev pub decreases-load_unit : goal.decreases-load_unit
decreases-load_unit l = 3 * unit_words (unit_view l.unit.now)

abbrev pub decreases-load_constant : goal.decreases-load_constant
decreases-load_constant l = 3 * constant_words (constant_view l.constant.now) + 1

abbrev pub decreases-load_constants : goal.decreases-load_constants
decreases-load_constants l = 3 * constants_words (constants_view l.constants.now) + 2

-- the objects of the constants before this one were made, and these constants are fit
abbrev pub invariant-load_constants-loop-constant : goal.invariant-load_constants-loop-constant
invariant-load_constants-loop-constant l = record {
  so_far : SoFar l.initial.sw l.sw (constants_objects (top_of l.initial.sw) (constants_view l.constants))
      (constants_objects (top_of l.sw) (constants_view (drop l.constant-index l.constants)));
  fit : AreFitConstants (constants_view (drop l.constant-index l.constants)) → AreFitConstants (constants_view l.constants);
}
