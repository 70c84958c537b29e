use Rattle.std.proofs.Common.{length}
use Rattle.text_forms.proofs.Passing.{Passed}
use Rattle.text_forms.proofs.forms.count_places.Given as goal

abbrev pub invariant-loop-rest : goal.invariant-loop-rest
invariant-loop-rest l = Passed l.text l.rows l.rest

abbrev pub decreases-loop-rest : goal.decreases-loop-rest
decreases-loop-rest l = length l.rest
