use Rattle.bench_tables.specs.Scene.{IsSet}
use Rattle.bench_tables.proofs.calls.write_texts.Given as goal

abbrev pub invariant-loop-call : goal.invariant-loop-call
invariant-loop-call l = IsSet l.scene
