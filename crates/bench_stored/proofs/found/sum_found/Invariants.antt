use Rattle.std.proofs.Common.{◌≡◌, true}
use Rattle.bench_stored.proofs.found.sum_found.Given as goal

abbrev pub invariant-loop-step : goal.invariant-loop-step
invariant-loop-step l = l.vault.alive ≡ true
