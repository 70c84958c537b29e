use Rattle.std.proofs.Common.{sym, subst}
use Rattle.ps_typing.specs.Placing.{Locals}
use Rattle.ps_placer.specs.inside.Standing.{Stands}
use Rattle.ps_placer.proofs.Steps.{params_one}
use Rattle.ps_placer.proofs.placer.Placer.declare_params.Goals as goal

pub loop-param-preserved : goal.loop-param-preserved
loop-param-preserved c =
    λ around locals stands. subst (λ (l : Locals). Stands c.with_name.new.self around l) (sym (params_one c.args.params.now c.loop-param.param-index c.param-item.result _ locals c.param-item.is c.loop-param-test.true))
    (c.in_ok-with_name.ensures around _ (c.loop-param.invariant around locals stands))
