use Rattle.std.proofs.Common.{length}
use Rattle.structure_rows.proofs.Counted.{IsCounted}
use Rattle.structure_rows.proofs.marks.count_fields.Given as goal

abbrev pub invariant-loop-rest : goal.invariant-loop-rest
invariant-loop-rest l = IsCounted l.text l.fields l.rest

abbrev pub decreases-loop-rest : goal.decreases-loop-rest
decreases-loop-rest l = length l.rest
