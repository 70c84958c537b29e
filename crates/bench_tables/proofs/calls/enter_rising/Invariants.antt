use Rattle.bench_tables.specs.Scene.{IsSet}
use Rattle.bench_tables.proofs.calls.enter_rising.Given as goal

abbrev pub invariant-loop-number : goal.invariant-loop-number
invariant-loop-number l = IsSet l.scene
