use Rattle.std.proofs.Common.{inl, arith}
use Rattle.std.proofs.lemmas.Result.{on_ok_weaker}
use Rattle.ps_port.proofs.of_ps_outside.Moments.{along_weaker}
use Rattle.paged_volume.proofs.Readying.{works_twice}
use Rattle.paged_volume.proofs.Selecting.{selector_images, selector_switched}
use Rattle.paged_volume.proofs.rooting.switch_to.Goals as goal

pub returns-in-Err-clause-images : goal.returns-in-Err-clause-images
returns-in-Err-clause-images g c = along_weaker c.write_root.ensures.images (λ image kept. inl kept)

pub write_synced-requires : goal.write_synced-requires
write_synced-requires g c = λ bytes now.
    let rooted = c.in-Ok.ensures.rooted bytes (g.met.H.Host.is_image c.write_root.new.host bytes now) in
    let long = rooted.ready.kept.says.head.long in
    let least = c.requires.ready.fit.head.least in
    omega arith

pub returns-clause-images : goal.returns-clause-images
returns-clause-images g c =
    let o = g.H.Host.outside in
    selector_images (o c.args.host.now) (o c.write_root.new.host) (o c.write_synced.new.host) c.args.table.now c.args.next c.requires.ready c.in-Ok.ensures.rooted c.write_root.ensures.images c.write_synced.ensures.images

pub returns-clause-switched : goal.returns-clause-switched
returns-clause-switched g c = on_ok_weaker c.write_synced.result (λ durable.
    let o = g.H.Host.outside in
    selector_switched (o c.args.host.now) (o c.write_root.new.host) (o c.write_synced.new.host) c.args.table.now c.args.next c.requires.ready c.in-Ok.ensures.rooted c.selector_of.result c.selector_of.ensures durable) c.write_synced.ensures.durable

pub returns-clause-works : goal.returns-clause-works
returns-clause-works g c =
    let o = g.H.Host.outside in
    works_twice (o c.args.host.now) (o c.write_root.new.host) (o c.write_synced.new.host) c.write_root.result c.write_synced.result c.write_root.ensures.works c.write_synced.ensures.works

pub returns-clause-stays : goal.returns-clause-stays
returns-clause-stays g c = on_ok_weaker c.write_synced.result (λ stays x now. let mid = c.in-Ok.ensures.stays x now in stays mid.0 mid.1) c.write_synced.ensures.stays
