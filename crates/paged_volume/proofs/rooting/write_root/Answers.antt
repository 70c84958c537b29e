use Rattle.std.proofs.Common.{ℕ, not, refl, subst, arith}
use Rattle.std.proofs.lemmas.Result.{on_ok_weaker}
use Rattle.paged_volume.specs.Switching.{IsRootPage}
use Rattle.paged_volume.proofs.Readying.{works_twice}
use Rattle.paged_volume.proofs.Selecting.{root_images, root_rooted, root_place}
use Rattle.paged_volume.proofs.rooting.write_root.Goals as goal

pub write_synced-requires : goal.write_synced-requires
write_synced-requires g c = λ bytes now.
    let ready = c.in-Ok.ensures.ready bytes (g.met.H.Host.is_image c.prepare.new.host bytes now) in
    let long = ready.kept.says.head.long in
    let least = c.requires.ready.fit.head.least in
    omega (arith, c.root_at-at.ensures, root_place (not c.args.table.now.committed.second))

pub returns-clause-images : goal.returns-clause-images
returns-clause-images g c =
    let o = g.H.Host.outside in
    root_images (o c.args.host.now) (o c.prepare.new.host) (o c.write_synced.new.host) c.args.table.now c.args.next c.requires.ready c.root_at-at.result _ c.root_at-at.ensures c.fill_root.ensures.size c.in-Ok.ensures.ready
    c.prepare.ensures.images c.write_synced.ensures.images

pub returns-clause-rooted : goal.returns-clause-rooted
returns-clause-rooted g c = on_ok_weaker c.write_synced.result (λ durable.
    let o = g.H.Host.outside in
    root_rooted (o c.args.host.now) (o c.prepare.new.host) (o c.write_synced.new.host) c.args.table.now c.args.next c.requires.ready c.root_at-at.result _ c.root_at-at.ensures c.fill_root.ensures.size c.in-Ok.ensures.ready
    c.fill_root.new.page refl (subst (λ (n : ℕ). IsRootPage c.args.next n c.fill_root.new.page) c.first_name-first.ensures c.fill_root.ensures) durable) c.write_synced.ensures.durable

pub returns-clause-works : goal.returns-clause-works
returns-clause-works g c =
    let o = g.H.Host.outside in
    works_twice (o c.args.host.now) (o c.prepare.new.host) (o c.write_synced.new.host) c.prepare.result c.write_synced.result c.prepare.ensures.works c.write_synced.ensures.works

pub returns-clause-stays : goal.returns-clause-stays
returns-clause-stays g c = on_ok_weaker c.write_synced.result (λ stays x now. let mid = c.in-Ok.ensures.stays x now in stays mid.0 mid.1) c.write_synced.ensures.stays
