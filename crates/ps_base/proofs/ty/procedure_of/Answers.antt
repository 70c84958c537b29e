use Rattle.std.proofs.Common.{ap, ◌∙◌}
use Rattle.ps_base.specs.List.{items_of}
use Rattle.ps_base.specs.TyView.{ty_view, ty_views}
use Rattle.ps_base.specs.TyView as view
use Rattle.ps_base.specs.declared.ty.Signature.{Signature}
use Rattle.ps_base.proofs.TyLemmas.{ty_view-Proc}
use Rattle.ps_base.proofs.ty.procedure_of.Goals as goal

pub returns : goal.returns
returns c = ty_view-Proc c.in_ok-new.field-0
    ∙ ap (λ (made : Signature). view.Proc (ty_views (items_of made.parameters)) (ty_view made.gives)) c.in_ok-new.ensures.ok
    ∙ ap (λ types. view.Proc (ty_views types) (ty_view c.args.gives)) c.new-parameters.ensures
