use Rattle.std.proofs.Common.{◌∙◌, ap, sym, refl, Some}
use Rattle.ps_base.specs.TyView.{ty_view}
use Rattle.ps_declared.specs.ps_typing.Fault.{Mismatch}
use Rattle.ps_checked.specs.inside.Tests.{test_of, wanted_by}
use Rattle.ps_declared.proofs.Steps.{passed, not_passed, is_fault}
use Rattle.ps_checked.proofs.fits.Test.passed.Goals as goal

pub returns-then-fits : goal.returns-then-fits
returns-then-fits c scope = passed (test_of c.args.self) _ _ _ _ _ _ refl (sym c.fits.ensures ∙ c.if-fits.true)

pub returns : goal.returns
returns c scope =
    is_fault _ _ (Mismatch c.args.line (ty_view c.args.clause.ty) (wanted_by c.args.self)) (ap (λ w. Some (Mismatch c.args.line (ty_view c.args.clause.ty) w)) c.in_ok-wanted.ensures)
    (not_passed (test_of c.args.self) _ _ _ _ _ _ refl (sym c.fits.ensures ∙ c.if-fits.false))
