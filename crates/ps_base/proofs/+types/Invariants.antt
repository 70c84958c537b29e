-- What is left of the type is no deeper than the type was.
use Rattle.std.proofs.Common.{◌≤◌}
use Rattle.ps_base.proofs.ty.Ty.TheLaws.{the_size}
use Rattle.ps_base.proofs.+types.Given as goal

abbrev pub invariant-ty::Ty::drop-loop-self : goal.invariant-ty::Ty::drop-loop-self
invariant-ty::Ty::drop-loop-self l = the_size l.self ≤ the_size l.initial.self
