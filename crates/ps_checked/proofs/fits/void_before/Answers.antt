use Rattle.std.proofs.Common.{◌∙◌, ap, sym, refl, not}
use Rattle.std.specs.Prelude.{if◌then◌else◌}
use Rattle.ps_base.specs.TyView.{Void, ty_view}
use Rattle.ps_declared.specs.ps_typing.Fault.{Mismatch}
use Rattle.ps_declared.specs.ps_typing.Checking.{Refuses}
use Rattle.ps_declared.proofs.Steps.{is_fault}
use Rattle.ps_checked.proofs.Voids.{is_void, not_void}
use Rattle.ps_checked.proofs.fits.void_before.Goals as goal

pub returns-then-is_void : goal.returns-then-is_void
returns-then-is_void c = λ next. ap (λ b. if b then next else Refuses (Mismatch c.args.line (ty_view c.args.before) Void)) (is_void _ (sym c.is_void.ensures ∙ ap not c.if-is_void.true))

pub returns : goal.returns
returns c = λ next. is_fault _ _ (Mismatch c.args.line (ty_view c.args.before) Void) refl (ap (λ b. if b then next else Refuses (Mismatch c.args.line (ty_view c.args.before) Void)) (not_void _ (sym c.is_void.ensures ∙ ap not c.if-is_void.false)))
