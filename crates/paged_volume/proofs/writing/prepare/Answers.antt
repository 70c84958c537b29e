use Rattle.std.proofs.lemmas.Result.{on_ok_weaker}
use Rattle.ps_port.proofs.of_ps_outside.Moments.{along_then, along_now}
use Rattle.paged_volume.proofs.Readying.{works_twice, works_call}
use Rattle.paged_volume.proofs.writing.prepare.Goals as goal

pub returns-clause-images : goal.returns-clause-images
returns-clause-images g c = along_then c.write_names.ensures.images c.sync.ensures.images (along_now c.write_names.ensures.images)

pub returns-clause-ready : goal.returns-clause-ready
returns-clause-ready g c = on_ok_weaker c.sync.result (λ durable image now. c.in-Ok.ensures.ready image (c.sync.ensures.contents.no_other image (durable image now))) c.sync.ensures.durable

pub returns-clause-works : goal.returns-clause-works
returns-clause-works g c =
    let o = g.H.Host.outside in
    works_twice (o c.args.host.now) (o c.write_names.new.host) (o c.sync.new.host) c.write_names.result c.sync.result c.write_names.ensures.works (works_call (o c.write_names.new.host) (o c.sync.new.host) c.sync.result c.sync.ensures.call)

pub returns-clause-stays : goal.returns-clause-stays
returns-clause-stays g c = on_ok_weaker c.sync.result (λ durable x now. let mid = c.in-Ok.ensures.stays x now in (mid.0, c.sync.ensures.contents.kept mid.0 mid.1)) c.sync.ensures.durable
