use Rattle.std.proofs.Common.{refl, ◌∙◌, ap}
use Rattle.page_map.specs.Pages.{held_of}
use Rattle.page_map.specs.Map.{MapView, with_staged}
use Rattle.paged_volume.proofs.Room.{latest_free}
use Rattle.paged_volume.proofs.Putting.{place_lists, is_put, put_as, put_alive, put_contents, put_stays, put_staging, put_pinned, write_as, written_as, holds_as}
use Rattle.paged_volume.proofs.volume.Volume.put_page.Goals as goal

pub returns-in-Ok-clause-put : goal.returns-in-Ok-clause-put
returns-in-Ok-clause-put g c =
    let o = g.H.Host.outside in
    let v = c.args.self.now in
    let a = o v.host in
    let b = o c.write_at.new.self in
    let put = put_as v.table c.place_for.new.map c.replace.new.self c.args.page c.in-Some.number c.requires.alive.is_table c.in-Some.ensures c.replace.ensures in
    put_contents a b v.live v.table c.args.page c.in-Some.number c.replace.new.self c.requires.alive c.requires.page put (write_as a b c.page_at.result c.in-Some.number _ c.page_at.ensures c.requires.size c.write_at.ensures.images)
    c.args.from.now c.requires.size (g.met.H.Host.is_image v.host) (written_as a b c.page_at.result c.in-Some.number c.args.from.now c.page_at.ensures c.in-Ok.ensures.contents)

pub returns-in-Ok-clause-stays : goal.returns-in-Ok-clause-stays
returns-in-Ok-clause-stays g c =
    let o = g.H.Host.outside in
    let v = c.args.self.now in
    let a = o v.host in
    let b = o c.write_at.new.self in
    let put = put_as v.table c.place_for.new.map c.replace.new.self c.args.page c.in-Some.number c.requires.alive.is_table c.in-Some.ensures c.replace.ensures in
    put_stays a b v.live v.table c.args.page c.in-Some.number c.replace.new.self c.requires.alive c.requires.page put (write_as a b c.page_at.result c.in-Some.number _ c.page_at.ensures c.requires.size c.write_at.ensures.images)
    c.args.from.now c.requires.size (g.met.H.Host.is_image v.host) (holds_as a b c.page_at.result c.in-Some.number c.args.from.now c.page_at.ensures c.in-Ok.ensures.written)

pub returns-in-Ok-clause-stages : goal.returns-in-Ok-clause-stages
returns-in-Ok-clause-stages g c =
    let o = g.H.Host.outside in
    let v = c.args.self.now in
    let a = o v.host in
    let b = o c.write_at.new.self in
    let put = put_as v.table c.place_for.new.map c.replace.new.self c.args.page c.in-Some.number c.requires.alive.is_table c.in-Some.ensures c.replace.ensures in
    put_staging a b v.live v.table c.args.page c.in-Some.number c.replace.new.self c.requires.alive c.requires.page put (write_as a b c.page_at.result c.in-Some.number _ c.page_at.ensures c.requires.size c.write_at.ensures.images)
    _ c.write_at.result c.write_at.ensures.call

pub returns-in-Ok-clause-alive : goal.returns-in-Ok-clause-alive
returns-in-Ok-clause-alive g c =
    let o = g.H.Host.outside in
    let v = c.args.self.now in
    let a = o v.host in
    let b = o c.write_at.new.self in
    let put = put_as v.table c.place_for.new.map c.replace.new.self c.args.page c.in-Some.number c.requires.alive.is_table c.in-Some.ensures c.replace.ensures in
    put_alive a b v.live v.table c.args.page c.in-Some.number c.replace.new.self c.requires.alive c.requires.page put (write_as a b c.page_at.result c.in-Some.number _ c.page_at.ensures c.requires.size c.write_at.ensures.images)

pub returns-in-Err-clause-stages : goal.returns-in-Err-clause-stages
returns-in-Err-clause-stages g c =
    let o = g.H.Host.outside in
    let v = c.args.self.now in
    let a = o v.host in
    let b = o c.write_at.new.self in
    let next = with_staged c.place_for.new.map c.args.page c.in-Some.number in
    let put = is_put v.table c.place_for.new.map c.args.page c.in-Some.number c.requires.alive.is_table c.in-Some.ensures in
    put_staging a b v.live v.table c.args.page c.in-Some.number next c.requires.alive c.requires.page put (write_as a b c.page_at.result c.in-Some.number _ c.page_at.ensures c.requires.size c.write_at.ensures.images)
    _ c.write_at.result c.write_at.ensures.call

pub returns-in-Ok-clause-pinned : goal.returns-in-Ok-clause-pinned
returns-in-Ok-clause-pinned g c =
    let o = g.H.Host.outside in
    let v = c.args.self.now in
    let a = o v.host in
    let b = o c.write_at.new.self in
    let put = put_as v.table c.place_for.new.map c.replace.new.self c.args.page c.in-Some.number c.requires.alive.is_table c.in-Some.ensures c.replace.ensures in
    put_pinned a b v.live v.table c.args.page c.in-Some.number c.replace.new.self c.requires.alive put c.args.from.now c.requires.size (g.met.H.Host.is_image v.host) (g.met.H.Host.one v.host)
    (written_as a b c.page_at.result c.in-Some.number c.args.from.now c.page_at.ensures c.in-Ok.ensures.contents) (holds_as a b c.page_at.result c.in-Some.number c.args.from.now c.page_at.ensures c.in-Ok.ensures.written)

pub returns-in-None-clause-fault : goal.returns-in-None-clause-fault
returns-in-None-clause-fault g c =
    let t = c.args.self.now.table in
    let same = c.in-None.ensures.0 in
    let full = c.in-None.ensures.1 in (
      refl,
      refl,
      (λ i. record { committed = t.committed; map = same i; named = t.named; next = t.next; pins = t.pins }),
      full,
      (λ latest. latest_free t c.requires.alive.is_table latest full.none),
      c.held.ensures ∙ ap (λ (m : MapView). held_of m.free) same,
      refl,
      refl,
    )

pub returns-in-Ok-clause-lists : goal.returns-in-Ok-clause-lists
returns-in-Ok-clause-lists g c =
    let placed = place_lists c.args.self.now.table.map c.place_for.new.map c.args.page c.in-Some.number c.in-Some.ensures in
    (ap (λ (m : MapView). m.committed) c.replace.ensures ∙ placed.0, ap (λ (m : MapView). m.pins) c.replace.ensures ∙ placed.1)

pub returns-in-Err-clause-lists : goal.returns-in-Err-clause-lists
returns-in-Err-clause-lists g c = place_lists c.args.self.now.table.map c.place_for.new.map c.args.page c.in-Some.number c.in-Some.ensures

pub returns-in-None-clause-lists : goal.returns-in-None-clause-lists
returns-in-None-clause-lists g c =
    let same = c.in-None.ensures.0 in
    (ap (λ (m : MapView). m.committed) same, ap (λ (m : MapView). m.pins) same)
