use Rattle.std.proofs.Common.{ℕ, ◌*◌, ◌+◌, min, ◌∙◌, ap, subst, refl, arith}
use Rattle.volume_parts.proofs.Looking.{looks_none, looks_then}
use Rattle.paged_volume.specs.Standing.{map_count, logical_of}
use Rattle.paged_volume.specs.Naming.{IsNaming}
use Rattle.paged_volume.specs.declared.committed.Committed.{Committed}
use Rattle.paged_volume.proofs.Reading.{naming_more, pages_more, maps_failed, looks_more, all_pages}
use Rattle.paged_volume.proofs.names.read_maps.Goals as goal

pub loop-map_page-init : goal.loop-map_page-init
loop-map_page-init g c = record {
  naming = subst (λ (n : ℕ). IsNaming c.args.table.now c.args.table.now.committed.depth (map_count c.args.table.now.committed) n) (omega arith) c.requires.naming;
  committed = refl;
  named = refl;
  next = refl;
  pins = refl;
  pages = λ bytes now page lt. absurd (omega arith);
  looks = looks_none (g.H.Host.outside c.args.host.now) 0;
}

pub read_map-requires-clause-naming : goal.read_map-requires-clause-naming
read_map-requires-clause-naming g c =
    let inv = c.loop-map_page.invariant in
    let lt = c.loop-map_page-test.true in
    naming_more c.loop-map_page.table c.args.table.now c.loop-map_page.map_page (omega (arith, c.map_count-map_page-end.ensures)) inv.committed inv.naming

pub read_map-requires-clause-within : goal.read_map-requires-clause-within
read_map-requires-clause-within g c =
    let lt = c.loop-map_page-test.true in
    omega (arith, ap (λ (k : Committed). map_count k) c.loop-map_page.invariant.committed, c.map_count-map_page-end.ensures)

pub read_map-requires-clause-long : goal.read_map-requires-clause-long
read_map-requires-clause-long g c = λ bytes now.
    let inv = c.loop-map_page.invariant in
    let long = c.requires.long bytes (inv.looks.same.no_other bytes now) in
    omega (arith, ap (λ (k : Committed). k.pages) inv.committed)

pub returns-in-Err-clause-looks : goal.returns-in-Err-clause-looks
returns-in-Err-clause-looks g c =
    let o = g.H.Host.outside in
    let lt = c.loop-map_page-test.true in
    looks_then (o c.args.host.now) (o c.loop-map_page.host) (o c.read_map.new.host) c.loop-map_page.map_page 1 (map_count c.args.table.now.committed) c.loop-map_page.invariant.looks c.read_map.ensures.looks (omega (arith, c.map_count-map_page-end.ensures))

pub returns-in-Err-clause-cause : goal.returns-in-Err-clause-cause
returns-in-Err-clause-cause g c =
    let o = g.H.Host.outside in
    let inv = c.loop-map_page.invariant in
    let lt = c.loop-map_page-test.true in
    maps_failed (o c.args.host.now) (o c.loop-map_page.host) (o c.read_map.new.host) c.loop-map_page.table c.args.table.now c.in-Err.fault c.loop-map_page.map_page (omega (arith, c.map_count-map_page-end.ensures))
    inv.committed inv.named inv.looks inv.pages c.in-Err.ensures.cause

pub loop-map_page-preserved : goal.loop-map_page-preserved
loop-map_page-preserved g c =
    let o = g.H.Host.outside in
    let inv = c.loop-map_page.invariant in
    let is = c.in-Ok.ensures in
    let lt = c.loop-map_page-test.true in
    record {
      naming = subst (λ (k : Committed). IsNaming c.read_map.new.table k.depth (map_count k) (min (logical_of k) (1024 * (c.loop-map_page.map_page + 1)))) inv.committed is.naming;
      committed = c.read_map.ensures.committed ∙ inv.committed;
      named = c.read_map.ensures.named ∙ inv.named;
      next = c.read_map.ensures.next ∙ inv.next;
      pins = c.read_map.ensures.pins ∙ inv.pins;
      pages = pages_more (o c.args.host.now) (o c.loop-map_page.host) c.loop-map_page.table c.args.table.now c.read_map.new.table c.loop-map_page.map_page (omega (arith, c.map_count-map_page-end.ensures)) inv.committed inv.named inv.looks inv.pages
          c.read_map.ensures.stays is.pages;
      looks = looks_then (o c.args.host.now) (o c.loop-map_page.host) (o c.read_map.new.host) c.loop-map_page.map_page 1 (c.loop-map_page.map_page + 1) inv.looks c.read_map.ensures.looks (omega arith);
    }

pub returns-clause-naming : goal.returns-clause-naming
returns-clause-naming g c =
    let inv = c.loop-map_page.invariant in
    let past = c.loop-map_page-test.false in
    subst (λ (n : ℕ). IsNaming c.loop-map_page.table c.args.table.now.committed.depth (map_count c.args.table.now.committed) n)
    (all_pages (logical_of c.args.table.now.committed) c.loop-map_page.map_page (omega (arith, c.map_count-map_page-end.ensures))) inv.naming

pub returns-clause-pages : goal.returns-clause-pages
returns-clause-pages g c = λ bytes now page lt.
    let past = c.loop-map_page-test.false in
    let all = all_pages (logical_of c.args.table.now.committed) c.loop-map_page.map_page (omega (arith, c.map_count-map_page-end.ensures)) in
    c.loop-map_page.invariant.pages bytes now page (omega (arith, all))

pub returns-clause-looks : goal.returns-clause-looks
returns-clause-looks g c =
    let o = g.H.Host.outside in
    looks_more (o c.args.host.now) (o c.loop-map_page.host) c.loop-map_page.map_page (map_count c.args.table.now.committed) c.loop-map_page.invariant.looks (omega (arith, c.map_count-map_page-end.ensures, c.loop-map_page.auto.map_page-end))

pub returns-in-Err-clause-next : goal.returns-in-Err-clause-next
returns-in-Err-clause-next g c = c.read_map.ensures.next ∙ c.loop-map_page.invariant.next

pub returns-in-Err-clause-pins : goal.returns-in-Err-clause-pins
returns-in-Err-clause-pins g c = c.read_map.ensures.pins ∙ c.loop-map_page.invariant.pins
