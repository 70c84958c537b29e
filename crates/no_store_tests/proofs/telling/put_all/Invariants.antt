use Rattle.std.proofs.Common.{◌≡◌, true}
use Rattle.no_store_tests.proofs.telling.put_all.Given as goal

abbrev pub invariant-loop-part : goal.invariant-loop-part
invariant-loop-part l = l.vault.alive ≡ true
