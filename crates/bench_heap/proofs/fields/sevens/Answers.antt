use Rattle.heap_ops.proofs.of_heap_places.FillingLaws.{fills-held}
use Rattle.bench_heap.proofs.fields.sevens.Goals as goal

pub returns-clause-held : goal.returns-clause-held
returns-clause-held c = fills-held _ _ _ _ _ _ _ c.make_repeated.ensures.filled
