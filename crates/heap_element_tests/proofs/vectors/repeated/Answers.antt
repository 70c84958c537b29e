use Rattle.heap_ops.proofs.MadeVectors.{vector-held}
use Rattle.heap_element_tests.proofs.vectors.repeated.Goals as goal

pub returns : goal.returns
returns c = record { there = vector-held _ _ _ _ _ _ _ c.make_vector.ensures.made }
