use Rattle.heap_ops.proofs.MadeVectors.{vector-held}
use Rattle.bench_heap.proofs.numbers.sevens.Goals as goal

pub returns-clause-held : goal.returns-clause-held
returns-clause-held c = vector-held _ _ _ _ _ _ _ c.make_vector.ensures.made
