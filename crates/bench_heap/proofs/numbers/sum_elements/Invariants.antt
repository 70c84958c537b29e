use Rattle.bench_heap.specs.Scene.{AreHeld}
use Rattle.bench_heap.proofs.numbers.sum_elements.Given as goal

abbrev pub invariant-loop : goal.invariant-loop
invariant-loop l = AreHeld l.scene.sw l.scene.pair
