use Rattle.heap_ops.proofs.of_heap_places.FillingLaws.{fills-held}
use Rattle.heap_ops_tests.proofs.calls.structure.Goals as goal

pub returns-clause-there : goal.returns-clause-there
returns-clause-there c = fills-held _ _ _ _ _ _ _ c.make_structure.ensures.filled
