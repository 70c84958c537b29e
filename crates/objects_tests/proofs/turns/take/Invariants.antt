use Rattle.std.proofs.Common.{◌≡◌, true}
use Rattle.objects_tests.proofs.turns.take.Given as goal

abbrev pub invariant-loop-turn : goal.invariant-loop-turn
invariant-loop-turn l = l.vault.alive ≡ true
