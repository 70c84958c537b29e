use Rattle.std.proofs.Common.{◌≡◌, true}
use Rattle.bench_volume.proofs.commit.Given as goal

abbrev pub invariant-loop-number : goal.invariant-loop-number
invariant-loop-number g l = l.store.live ≡ true
