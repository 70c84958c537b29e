use Rattle.std.proofs.Common.{◌≡◌, true}
use Rattle.objects_tests.proofs.tables.first_wrong.Given as goal

abbrev pub invariant-loop-at : goal.invariant-loop-at
invariant-loop-at l = l.vault.alive ≡ true
