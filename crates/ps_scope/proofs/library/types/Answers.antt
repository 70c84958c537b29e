use Rattle.ps_scope.proofs.Rows.{one_type}
use Rattle.ps_scope.proofs.library.types.Goals as goal

pub loop-one-preserved : goal.loop-one-preserved
loop-one-preserved c = one_type c.args.simple.now c.loop-one.one-index _ c.loop-one.made.items _ _ c.loop-one-test.true c.loop-one.invariant c.in_ok-push.ensures.items c.ty.ensures
