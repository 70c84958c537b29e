use Rattle.std.proofs.Common.{◌≡◌, true}
use Rattle.vault_output_tests.proofs.steps.run.Given as goal

abbrev pub invariant-loop-one : goal.invariant-loop-one
invariant-loop-one l = l.vault.alive ≡ true
