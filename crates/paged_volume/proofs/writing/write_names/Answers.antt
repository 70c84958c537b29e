use Rattle.std.proofs.lemmas.Result.{on_ok_weaker}
use Rattle.paged_volume.proofs.Turning.{kept_then, kept_says}
use Rattle.paged_volume.proofs.Readying.{names_ready, works_twice}
use Rattle.paged_volume.proofs.writing.write_names.Goals as goal

pub write_index-requires-clause-says : goal.write_index-requires-clause-says
write_index-requires-clause-says g c = λ image now. kept_says (g.H.Host.outside c.args.host.now) (g.H.Host.outside c.write_maps.new.host) c.args.table.now c.write_maps.ensures.images image now

pub returns-clause-images : goal.returns-clause-images
returns-clause-images g c =
    let o = g.H.Host.outside in
    kept_then (o c.args.host.now) (o c.write_maps.new.host) (o c.write_index.new.host) c.args.table.now c.write_maps.ensures.images c.write_index.ensures.images

pub returns-clause-ready : goal.returns-clause-ready
returns-clause-ready g c =
    let o = g.H.Host.outside in
    names_ready (o c.args.host.now) (o c.write_maps.new.host) (o c.write_index.new.host) c.args.table.now c.args.next c.write_index.result (g.met.H.Host.is_image c.write_index.new.host)
    (kept_then (o c.args.host.now) (o c.write_maps.new.host) (o c.write_index.new.host) c.args.table.now c.write_maps.ensures.images c.write_index.ensures.images)
    c.in-Ok.ensures.staged c.write_index.ensures.staged c.write_index.ensures.named

pub returns-clause-works : goal.returns-clause-works
returns-clause-works g c =
    let o = g.H.Host.outside in
    works_twice (o c.args.host.now) (o c.write_maps.new.host) (o c.write_index.new.host) c.write_maps.result c.write_index.result c.write_maps.ensures.works c.write_index.ensures.works

pub returns-clause-stays : goal.returns-clause-stays
returns-clause-stays g c = on_ok_weaker c.write_index.result (λ stays x now. let mid = c.in-Ok.ensures.stays x now in stays mid.0 mid.1) c.write_index.ensures.stays
