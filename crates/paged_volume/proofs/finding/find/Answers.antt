use Rattle.std.proofs.lemmas.Result.{IfOk-weaker}
use Rattle.ps_port.proofs.of_ps_outside.Moments.{settles_by}
use Rattle.paged_volume.proofs.finding.find.Goals as goal

pub returns-clause-settles : goal.returns-clause-settles
returns-clause-settles g c =
    let o = g.H.Host.outside in
    IfOk-weaker c.look.result _ _ (λ table looks. settles_by (o c.args.host.now) (o c.sync.new.self) (o c.look.new.host)
    c.sync.ensures.images c.sync.ensures.contents c.sync.ensures.call.told c.in-Ok.ensures.durable looks.images looks.told) c.look.ensures.looks
