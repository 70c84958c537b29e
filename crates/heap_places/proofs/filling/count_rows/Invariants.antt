use Rattle.std.proofs.Common.{drop}
use Rattle.heap_places.proofs.FillingLaws.{IsCounted}
use Rattle.heap_places.proofs.filling.count_rows.Given as goal

abbrev pub invariant-loop-value : goal.invariant-loop-value
invariant-loop-value l = IsCounted l.values l.rows (drop l.value-index l.values)
