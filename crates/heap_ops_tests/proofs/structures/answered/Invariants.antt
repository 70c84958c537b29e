use Rattle.heap_ops_tests.specs.World.{IsReady}
use Rattle.heap_ops_tests.proofs.structures.answered.Given as goal

abbrev pub invariant-loop-call : goal.invariant-loop-call
invariant-loop-call l = IsReady l.world
