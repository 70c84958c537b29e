-- What is left of the tree is no deeper than the tree was.
use Rattle.std.proofs.Common.{◌≤◌}
use Rattle.ps_program.proofs.form.TreeForm.TheLaws.{the_size}
use Rattle.ps_program.proofs.+tree.Given as goal

abbrev pub invariant-form::TreeForm::drop-loop-self : goal.invariant-form::TreeForm::drop-loop-self
invariant-form::TreeForm::drop-loop-self l = the_size l.self ≤ the_size l.initial.self
