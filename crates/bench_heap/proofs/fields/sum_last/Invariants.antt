use Rattle.bench_heap.specs.Scene.{IsSet}
use Rattle.bench_heap.proofs.fields.sum_last.Given as goal

abbrev pub invariant-loop : goal.invariant-loop
invariant-loop l = IsSet l.scene
