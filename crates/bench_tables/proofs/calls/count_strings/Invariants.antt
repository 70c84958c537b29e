use Rattle.bench_tables.specs.Scene.{IsSet}
use Rattle.bench_tables.proofs.calls.count_strings.Given as goal

abbrev pub invariant-loop-call : goal.invariant-loop-call
invariant-loop-call g l = IsSet l.scene
