use Rattle.std.proofs.Common.{◌∙◌, ap}
use Rattle.ps_base.specs.TyView.{ty_view}
use Rattle.ps_declared.specs.declared.declarators.Declarator.{Declarator}
use Rattle.ps_declared.proofs.Declaring.{type_step}
use Rattle.ps_declared.proofs.declarators.types.Goals as goal

pub loop-declarator-preserved : goal.loop-declarator-preserved
loop-declarator-preserved c =
    type_step c.args.declarators.now c.loop-declarator.declarator-index _ c.loop-declarator.made.items _ _ c.loop-declarator-test.true c.loop-declarator.invariant c.in_ok-push.ensures.items
    (c.in_ok-copy.ensures ∙ ap (λ (d : Declarator). ty_view d.ty.now) c.declarator-item.is)
