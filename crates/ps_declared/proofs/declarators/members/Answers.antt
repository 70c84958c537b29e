use Rattle.std.proofs.Common.{◌∙◌, ap}
use Rattle.ps_base.specs.TyView.{ty_view}
use Rattle.ps_declared.specs.declared.declarators.Declarator.{Declarator}
use Rattle.ps_declared.proofs.Declaring.{member_step, field_with}
use Rattle.ps_declared.proofs.declarators.members.Goals as goal

pub loop-declarator-preserved : goal.loop-declarator-preserved
loop-declarator-preserved c =
    let one = c.declarator-item.result in
    member_step c.args.declarators.now c.loop-declarator.declarator-index _ c.loop-declarator.made.items _ _ c.loop-declarator-test.true c.loop-declarator.invariant c.in_ok-push.ensures.items
    (ap (λ t. field_with t c.in_ok-name.name) c.in_ok-ty.ensures ∙ ap (field_with (ty_view one.ty.now)) (c.in_ok-name.ensures ∙ c.as_slice.ensures) ∙ ap (λ (d : Declarator). field_with (ty_view d.ty.now) d.name.now.name) c.declarator-item.is)
