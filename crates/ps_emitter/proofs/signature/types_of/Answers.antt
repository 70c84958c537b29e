use Rattle.ps_emitter.proofs.Signatures.{type_more}
use Rattle.ps_emitter.proofs.signature.types_of.Goals as goal

pub loop-param-preserved : goal.loop-param-preserved
loop-param-preserved c =
    type_more c.args.params.now c.loop-param.param-index c.param-item.result c.param-item.result c.loop-param.made.items _ _ c.param-item.is c.loop-param-test.true c.loop-param.invariant c.in_ok-push.ensures.items c.in_ok-copy.ensures
