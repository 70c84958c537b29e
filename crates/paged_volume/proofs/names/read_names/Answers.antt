use Rattle.std.proofs.lemmas.Result.{on_ok_weaker, IfErr-weaker}
use Rattle.paged_volume.proofs.Reading.{names_fail_first, names_fail_second, names_fail_third, names_are, behind}
use Rattle.paged_volume.proofs.names.read_names.Goals as goal

pub returns-in-Err-clause-cause : goal.returns-in-Err-clause-cause
returns-in-Err-clause-cause g c =
    let o = g.H.Host.outside in
    names_fail_first (o c.args.host.now) (o c.take_index.new.host) c.args.table.now.committed c.in-Err.fault c.in-Err.ensures.cause

pub returns-in-Err-take_maps-clause-cause : goal.returns-in-Err-take_maps-clause-cause
returns-in-Err-take_maps-clause-cause g c =
    let o = g.H.Host.outside in
    let is = c.in-Ok.ensures in
    names_fail_second (o c.args.host.now) (o c.take_index.new.host) c.args.table.now.committed c.take_index.new.table c.take_index.new.page c.fault.result c.in-Err-take_maps.damage c.take_index.ensures.committed is.naming is.index is.page
    c.in-Err-take_maps.ensures.err c.fault.ensures

pub returns-clause-names : goal.returns-clause-names
returns-clause-names g c = on_ok_weaker c.read_maps.result (λ pages.
    let o = g.H.Host.outside in
    let is = c.in-Ok.ensures in
    let maps = c.in-Ok-take_maps.ensures in
    names_are (o c.args.host.now) (o c.take_index.new.host) c.args.table.now.committed c.take_index.new.table c.take_maps.new.table c.read_maps.new.table c.take_index.new.page
    c.take_index.ensures.committed c.take_maps.ensures.committed c.take_index.ensures.looks
    (behind (o c.args.host.now) c.args.table.now.committed c.take_index.new.table c.take_maps.new.table c.take_index.new.page c.take_index.ensures.committed c.take_maps.ensures.committed maps.naming is.index is.page maps.first maps.maps)
    c.read_maps.ensures.named pages) c.read_maps.ensures.pages

pub returns-clause-cause : goal.returns-clause-cause
returns-clause-cause g c = IfErr-weaker c.read_maps.result _ _ (λ fault fails.
    let o = g.H.Host.outside in
    let is = c.in-Ok.ensures in
    let maps = c.in-Ok-take_maps.ensures in
    names_fail_third (o c.args.host.now) (o c.take_index.new.host) (o c.read_maps.new.host) c.args.table.now.committed c.take_index.new.table c.take_maps.new.table c.take_index.new.page fault
    c.take_index.ensures.committed c.take_maps.ensures.committed c.take_index.ensures.looks
    (behind (o c.args.host.now) c.args.table.now.committed c.take_index.new.table c.take_maps.new.table c.take_index.new.page c.take_index.ensures.committed c.take_maps.ensures.committed maps.naming is.index is.page maps.first maps.maps)
    fails) c.read_maps.ensures.cause
