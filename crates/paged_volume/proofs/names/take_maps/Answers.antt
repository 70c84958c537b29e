use Rattle.std.proofs.Common.{◌≡◌, ℕ, ◌+◌, ◌<◌, sym, ◌∙◌, ap, subst, refl, arith, length}
use Rattle.paged_volume.specs.Standing.{map_count}
use Rattle.paged_volume.specs.Naming.{IsNaming}
use Rattle.paged_volume.specs.declared.committed.Committed.{Committed}
use Rattle.paged_volume.proofs.Bounds.{are_low}
use Rattle.paged_volume.proofs.Reading.{maps_fail, maps_more, first_stays}
use Rattle.paged_volume.proofs.names.take_maps.Goals as goal

pub loop-map_page-init : goal.loop-map_page-init
loop-map_page-init c = record { naming = c.requires.naming; committed = refl; next = refl; pins = refl; first = refl; maps = λ i lt. absurd (omega arith) }

pub take_map-requires-clause-naming : goal.take_map-requires-clause-naming
take_map-requires-clause-naming c =
    let inv = c.loop-map_page.invariant in
    subst (λ (k : Committed). IsNaming c.loop-map_page.table k.depth c.loop-map_page.map_page 0) (sym inv.committed) inv.naming

pub take_map-requires-clause-within : goal.take_map-requires-clause-within
take_map-requires-clause-within c =
    let lt = c.loop-map_page-test.true in
    omega (arith, ap (λ (k : Committed). map_count k) c.loop-map_page.invariant.committed, c.map_count-map_page-end.ensures)

pub returns-in-Err-clause-err : goal.returns-in-Err-clause-err
returns-in-Err-clause-err c =
    let inv = c.loop-map_page.invariant in
    let t = c.loop-map_page.table in
    let lt = c.loop-map_page-test.true in
    maps_fail t c.args.table.now c.args.page.now c.loop-map_page.map_page (map_count c.args.table.now.committed) c.in-Err.damage (omega (arith, c.map_count-map_page-end.ensures)) inv.committed inv.naming inv.first inv.maps
    c.in-Err.ensures.err

pub loop-map_page-preserved : goal.loop-map_page-preserved
loop-map_page-preserved c =
    let inv = c.loop-map_page.invariant in
    let t = c.loop-map_page.table in
    let is = c.in-Ok.ensures in
    let lt = c.loop-map_page-test.true in
    let low = are_low t.committed inv.naming.fit in
    let most = low.maps in
    let size = inv.naming.names in
    let few : 1 + c.loop-map_page.map_page < length t.named.items = omega (arith, ap (λ (k : Committed). map_count k) inv.committed, c.map_count-map_page-end.ensures) in
    record {
      naming = subst (λ (k : Committed). IsNaming c.take_map.new.table k.depth (c.loop-map_page.map_page + 1) 0) inv.committed is.naming;
      committed = c.take_map.ensures.committed ∙ inv.committed;
      next = c.take_map.ensures.next ∙ inv.next;
      pins = c.take_map.ensures.pins ∙ inv.pins;
      first = first_stays t.named.items c.take_map.new.table.named.items c.loop-map_page.map_page _ is.named ∙ inv.first;
      maps = maps_more c.args.page.now t.named.items c.take_map.new.table.named.items c.args.table.now.committed.depth t.committed.depth c.loop-map_page.map_page few (ap (λ (k : Committed). k.depth) inv.committed) is.named inv.maps;
    }

pub returns-clause-naming : goal.returns-clause-naming
returns-clause-naming c =
    let inv = c.loop-map_page.invariant in
    let past = c.loop-map_page-test.false in
    let end : c.loop-map_page.map_page ≡ map_count c.args.table.now.committed = omega (arith, c.map_count-map_page-end.ensures, c.loop-map_page.auto.map_page-end) in
    subst (λ (n : ℕ). IsNaming c.loop-map_page.table c.args.table.now.committed.depth n 0) end inv.naming

pub returns-clause-maps : goal.returns-clause-maps
returns-clause-maps c = λ i lt.
    let past = c.loop-map_page-test.false in
    c.loop-map_page.invariant.maps i (omega (arith, c.map_count-map_page-end.ensures))

pub returns-in-Err-clause-next : goal.returns-in-Err-clause-next
returns-in-Err-clause-next c = c.take_map.ensures.next ∙ c.loop-map_page.invariant.next

pub returns-in-Err-clause-pins : goal.returns-in-Err-clause-pins
returns-in-Err-clause-pins c = c.take_map.ensures.pins ∙ c.loop-map_page.invariant.pins
