use Rattle.std.proofs.Common.{◌<◌}
use Rattle.bench_heap.proofs.numbers.sum_words.Given as goal

abbrev pub invariant-loop : goal.invariant-loop
invariant-loop l = l.index < 8
