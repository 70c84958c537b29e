use Rattle.scopes_tests.specs.World.{IsReady}
use Rattle.scopes_tests.proofs.names.put_answers.Given as goal

abbrev pub invariant-loop-line : goal.invariant-loop-line
invariant-loop-line l = IsReady l.world
