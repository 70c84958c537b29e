-- What is left of a clause is no deeper than the clause was.
use Rattle.std.proofs.Common.{◌≤◌}
use Rattle.ps_tree.proofs.rough.RoughForm.TheLaws.{the_size}
use Rattle.ps_tree.proofs.rough.+rough.Given as goal

abbrev pub invariant-RoughForm::drop-loop-self : goal.invariant-RoughForm::drop-loop-self
invariant-RoughForm::drop-loop-self l = the_size l.self ≤ the_size l.initial.self
