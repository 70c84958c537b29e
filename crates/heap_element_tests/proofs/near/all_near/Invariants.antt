use Rattle.heap_ops.specs.heap_places.Filling.{AreNear}
use Rattle.heap_element_tests.proofs.near.all_near.Given as goal

abbrev pub invariant-loop-word : goal.invariant-loop-word
invariant-loop-word l = AreNear l.sw l.list.items
