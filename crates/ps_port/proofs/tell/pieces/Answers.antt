use Rattle.ps_port.proofs.Telling.{failed, device_then, so_far_more, so_far_fails, joined-next}
use Rattle.ps_port.proofs.tell.pieces.Goals as goal

pub returns-in_err-piece-clause-tells : goal.returns-in_err-piece-clause-tells
returns-in_err-piece-clause-tells g c =
    let seen = g.H.Host.outside in
    failed (seen c.args.host.now) (seen c.piece.new.host) _ _ c.from_residual.ensures.0
    (so_far_fails (seen c.args.host.now) (seen c.loop-part.host) (seen c.piece.new.host) _ _ _ _ c.loop-part.invariant c.in_err-piece.ensures.tells
    (joined-next c.args.parts.now c.loop-part.part-index _ c.loop-part-test.true))

pub returns-in_err-piece-clause-device : goal.returns-in_err-piece-clause-device
returns-in_err-piece-clause-device g c =
    let seen = g.H.Host.outside in
    device_then (seen c.args.host.now) (seen c.loop-part.host) (seen c.piece.new.host) c.loop-part.invariant.device c.piece.ensures.device

pub loop-part-preserved : goal.loop-part-preserved
loop-part-preserved g c =
    let seen = g.H.Host.outside in
    so_far_more (seen c.args.host.now) (seen c.loop-part.host) (seen c.piece.new.host) _ _ _ _ c.loop-part.invariant c.in_ok-piece.ensures.tells
    c.piece.ensures.device (joined-next c.args.parts.now c.loop-part.part-index _ c.loop-part-test.true)
