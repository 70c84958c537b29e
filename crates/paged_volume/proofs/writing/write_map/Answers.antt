use Rattle.std.proofs.Common.{ℕ, ◌*◌, ap, subst, arith, Bool, if◌then◌else◌}
use Rattle.std.proofs.lemmas.Result.{on_ok_weaker}
use Rattle.ps_port.specs.ps_outside.Outside.{Leaves, After}
use Rattle.ps_port.specs.Disk.{Torn}
use Rattle.paged_volume.specs.Standing.{maps_of}
use Rattle.paged_volume.proofs.Turning.{kept_none, kept_write, maps_stay, spare_number, stay_number, there_write, map_content}
use Rattle.paged_volume.proofs.writing.write_map.Goals as goal

pub returns-then-number-index-clause-images : goal.returns-then-number-index-clause-images
returns-then-number-index-clause-images g c = kept_none (g.H.Host.outside c.args.host.now) c.args.table.now c.requires.says

pub returns-then-number-index-clause-maps : goal.returns-then-number-index-clause-maps
returns-then-number-index-clause-maps g c = λ bytes now.
    maps_stay c.args.table.now c.args.next c.args.map_page bytes c.requires.ready
    (stay_number c.args.table.now c.args.next c.args.map_page c.index-number.result.now c.index.result.now c.requires.ready c.requires.within c.index-number.ensures c.index.ensures c.if-number-index.true)
    (c.requires.says bytes (g.met.H.Host.is_image c.args.host.now bytes now)) (c.requires.maps bytes now)

pub write_page-requires-clause-long : goal.write_page-requires-clause-long
write_page-requires-clause-long g c = λ bytes now.
    let t = c.args.table.now in
    let moves = spare_number t c.args.next c.args.map_page c.index-number.result.now c.index.result.now c.requires.ready c.requires.within c.index-number.ensures c.index.ensures c.if-number-index.false in
    there_write t c.args.next c.args.map_page c.index-number.result.now bytes c.requires.ready c.requires.within moves.0 (c.requires.says bytes (g.met.H.Host.is_image c.args.host.now bytes now))

pub returns-clause-images : goal.returns-clause-images
returns-clause-images g c =
    let o = g.H.Host.outside in
    let t = c.args.table.now in
    let moves = spare_number t c.args.next c.args.map_page c.index-number.result.now c.index.result.now c.requires.ready c.requires.within c.index-number.ensures c.index.ensures c.if-number-index.false in
    let a = o c.args.host.now in
    let b = o c.write_page.new.host in
    kept_write a b t (maps_of t.next.items c.args.map_page) c.requires.ready.fit c.requires.ready.once moves.1.spare c.requires.says
    (subst (λ (n : ℕ). Leaves a b (After (a.images a.clock) (Torn (4096 * n) 4096))) moves.0 c.write_page.ensures.images)

pub returns-clause-maps : goal.returns-clause-maps
returns-clause-maps g c = on_ok_weaker c.write_page.result (λ wrote bytes now.
    let t = c.args.table.now in
    let moves = spare_number t c.args.next c.args.map_page c.index-number.result.now c.index.result.now c.requires.ready c.requires.within c.index-number.ensures c.index.ensures c.if-number-index.false in
    let after = wrote bytes now in
    (map_content t c.args.next c.args.map_page c.index-number.result.now c.write_map_page.new.into after.from bytes c.requires.ready c.requires.within moves.0 moves.1 (c.requires.says after.from (g.met.H.Host.is_image c.args.host.now after.from after.was))
    c.write_map_page.ensures after.by).0 (c.requires.maps after.from after.was)) c.write_page.ensures.wrote

pub returns-clause-staged : goal.returns-clause-staged
returns-clause-staged g c = on_ok_weaker c.write_page.result (λ wrote bytes now.
    let t = c.args.table.now in
    let moves = spare_number t c.args.next c.args.map_page c.index-number.result.now c.index.result.now c.requires.ready c.requires.within c.index-number.ensures c.index.ensures c.if-number-index.false in
    let after = wrote bytes now in
    record {
      from = after.from;
      was = after.was;
      by = (map_content t c.args.next c.args.map_page c.index-number.result.now c.write_map_page.new.into after.from bytes c.requires.ready c.requires.within moves.0 moves.1 (c.requires.says after.from (g.met.H.Host.is_image c.args.host.now after.from after.was))
          c.write_map_page.ensures after.by).1;
    }) c.write_page.ensures.wrote

pub returns-clause-calls : goal.returns-clause-calls
returns-clause-calls g c =
    let t = c.args.table.now in
    let moves = spare_number t c.args.next c.args.map_page c.index-number.result.now c.index.result.now c.requires.ready c.requires.within c.index-number.ensures c.index.ensures c.if-number-index.false in
    omega (arith, c.write_page.ensures.call.calls, ap {B = ℕ} (λ (b : Bool). if b then 1 else 0) moves.1.changed)
