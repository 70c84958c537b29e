use Rattle.std.proofs.Common.{length}
use Rattle.text_forms.proofs.Passing.{Sought}
use Rattle.text_forms.proofs.forms.locate.Given as goal

abbrev pub invariant-loop-rest : goal.invariant-loop-rest
invariant-loop-rest l = Sought l.text l.rows l.found l.number l.rest

abbrev pub decreases-loop-rest : goal.decreases-loop-rest
decreases-loop-rest l = length l.rest
