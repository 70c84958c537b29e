use Rattle.ps_port.proofs.Telling.{put_tells, device_put}
use Rattle.ps_port.proofs.tell.piece.Goals as goal

pub returns-clause-tells : goal.returns-clause-tells
returns-clause-tells g c =
    let seen = g.H.Host.outside in
    put_tells (seen c.args.host.now) (seen c.put.new.self) _ _ c.put.ensures.cut c.put.ensures.all c.put.ensures.calm c.put.ensures.call

pub returns-clause-device : goal.returns-clause-device
returns-clause-device g c =
    let seen = g.H.Host.outside in
    device_put (seen c.args.host.now) (seen c.put.new.self) _ c.put.ensures.call
