use Rattle.std.proofs.Common.{◌≡◌, ◌+◌, ℕ, refl, ◌∙◌, subst, arith}
use Rattle.ps_port.proofs.of_ps_outside.Moments.{along_none, along_then, along_now}
use Rattle.volume_parts.proofs.Looking.{rose_then}
use Rattle.paged_volume.specs.Standing.{logical_of, map_count}
use Rattle.paged_volume.specs.Switching.{HasMaps}
use Rattle.paged_volume.proofs.Turning.{kept_none, kept_then, kept_says, same_now, same_then}
use Rattle.paged_volume.proofs.Changed.{changed_more, changed_within}
use Rattle.paged_volume.proofs.writing.write_maps.Goals as goal

pub loop-map_page-init : goal.loop-map_page-init
loop-map_page-init g c =
    let a = g.H.Host.outside c.args.host.now in
    record {
      kept = kept_none a c.args.table.now c.requires.says;
      maps = λ bytes now page lt. absurd (omega arith);
      staged = λ bytes now. record { from = bytes; was = now; by = same_now c.args.table.now bytes };
      told = along_none a.clock a.told;
      counts = omega arith;
      output = refl;
      calls = omega arith;
      stays = λ x now. (x, now);
    }

pub write_map-requires-clause-within : goal.write_map-requires-clause-within
write_map-requires-clause-within g c = let lt = c.loop-map_page-test.true in omega (arith, c.map_count-map_page-end.ensures)

pub write_map-requires-clause-says : goal.write_map-requires-clause-says
write_map-requires-clause-says g c = λ image now. kept_says (g.H.Host.outside c.args.host.now) (g.H.Host.outside c.loop-map_page.host) c.args.table.now c.loop-map_page.invariant.kept image now

pub returns-in-Err-clause-images : goal.returns-in-Err-clause-images
returns-in-Err-clause-images g c =
    let o = g.H.Host.outside in
    kept_then (o c.args.host.now) (o c.loop-map_page.host) (o c.write_map.new.host) c.args.table.now c.loop-map_page.invariant.kept c.write_map.ensures.images

pub returns-in-Err-clause-works : goal.returns-in-Err-clause-works
returns-in-Err-clause-works g c =
    let o = g.H.Host.outside in
    let inv = c.loop-map_page.invariant in
    let works = c.in-Err.ensures.works in
    record {
      told = along_then inv.told works.told (along_now inv.told);
      counts = let one = inv.counts in let two = works.counts in omega arith;
      output = works.output ∙ inv.output;
      cause = rose_then (o c.args.host.now).device_faults (o c.loop-map_page.host).device_faults (o c.write_map.new.host).device_faults inv.counts works.cause;
    }

pub returns-in-Err-clause-calls : goal.returns-in-Err-clause-calls
returns-in-Err-clause-calls g c =
    let one = c.loop-map_page.invariant.calls in
    let two = c.write_map.ensures.calls in
    let lt = c.loop-map_page-test.true in
    let map = c.args.table.now.map in
    let logical = logical_of c.args.next in
    omega (arith, c.map_count-map_page-end.ensures, changed_more map logical c.loop-map_page.map_page, changed_within map logical (c.loop-map_page.map_page + 1) (map_count c.args.next) (omega (arith, c.map_count-map_page-end.ensures)))

pub loop-map_page-preserved : goal.loop-map_page-preserved
loop-map_page-preserved g c =
    let o = g.H.Host.outside in
    let inv = c.loop-map_page.invariant in
    let is = c.in-Ok.ensures in
    let works = c.write_map.ensures.works in
    record {
      kept = kept_then (o c.args.host.now) (o c.loop-map_page.host) (o c.write_map.new.host) c.args.table.now inv.kept c.write_map.ensures.images;
      maps = is.maps;
      staged = λ bytes now. let after = is.staged bytes now in same_then (o c.args.host.now) c.args.table.now after.from bytes (inv.staged after.from after.was) after.by;
      told = along_then inv.told works.told (along_now inv.told);
      counts = let one = inv.counts in let two = works.counts in omega arith;
      output = works.output ∙ inv.output;
      calls = let one = inv.calls in let two = c.write_map.ensures.calls in omega (arith, changed_more c.args.table.now.map (logical_of c.args.next) c.loop-map_page.map_page);
      stays = λ x now. let mid = inv.stays x now in is.stays mid.0 mid.1;
    }

pub returns-clause-maps : goal.returns-clause-maps
returns-clause-maps g c = λ bytes now.
    let past = c.loop-map_page-test.false in
    let end : c.loop-map_page.map_page ≡ map_count c.args.next = omega (arith, c.map_count-map_page-end.ensures, c.loop-map_page.auto.map_page-end) in
    subst (λ (n : ℕ). HasMaps c.args.table.now c.args.next n bytes) end (c.loop-map_page.invariant.maps bytes now)

pub returns-clause-works : goal.returns-clause-works
returns-clause-works g c = let inv = c.loop-map_page.invariant in record { told = inv.told; counts = inv.counts; output = inv.output; cause = tt }

pub returns-clause-calls : goal.returns-clause-calls
returns-clause-calls g c =
    let one = c.loop-map_page.invariant.calls in
    let past = c.loop-map_page-test.false in
    omega (arith, changed_within c.args.table.now.map (logical_of c.args.next) c.loop-map_page.map_page (map_count c.args.next) (omega (arith, c.map_count-map_page-end.ensures, c.loop-map_page.auto.map_page-end)))
