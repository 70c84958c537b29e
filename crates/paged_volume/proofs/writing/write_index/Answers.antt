use Rattle.std.proofs.Common.{ℕ, List, ◌*◌, ap, subst, arith, length, get_or}
use Rattle.std.proofs.lemmas.Result.{on_ok_weaker}
use Rattle.ps_port.specs.ps_outside.Outside.{Leaves, After}
use Rattle.ps_port.specs.Disk.{Torn}
use Rattle.paged_volume.specs.Standing.{IsSpare}
use Rattle.paged_volume.proofs.Bounds.{are_low}
use Rattle.paged_volume.proofs.Turning.{kept_none, kept_write}
use Rattle.paged_volume.proofs.Reading.{index_first}
use Rattle.paged_volume.proofs.Readying.{index_number_is, index_there, index_content, deep_some, count_fits, index_numbers}
use Rattle.paged_volume.proofs.writing.write_index.Goals as goal

pub returns-then-next-eq0-clause-images : goal.returns-then-next-eq0-clause-images
returns-then-next-eq0-clause-images g c = kept_none (g.H.Host.outside c.args.host.now) c.args.table.now c.requires.says

pub returns-then-next-eq0-clause-named : goal.returns-then-next-eq0-clause-named
returns-then-next-eq0-clause-named g c = λ bytes now. (c.requires.maps bytes now, λ i lt deep. let none = c.if-next-eq0.true in absurd (omega arith))

pub fill_index-requires-clause-count : goal.fill_index-requires-clause-count
fill_index-requires-clause-count g c = omega (arith, count_fits c.args.table.now c.args.next c.requires.ready, c.map_count.ensures, ap (λ (xs : List ℕ). length xs) c.deref.ensures.value)

pub fill_index-requires-clause-few : goal.fill_index-requires-clause-few
fill_index-requires-clause-few g c = let few = (are_low c.args.next c.requires.ready.next_fit).few in omega (arith, c.map_count.ensures)

pub write_page-requires-clause-long : goal.write_page-requires-clause-long
write_page-requires-clause-long g c = λ bytes now.
    let t = c.args.table.now in
    let x_is = index_number_is t c.args.next c.index-number.result.now c.requires.ready c.index-number.ensures in
    let there = index_there t c.args.next c.requires.ready (deep_some c.args.next c.if-next-eq0.false) in
    let high = there.1 in
    let long = (c.requires.says bytes (g.met.H.Host.is_image c.args.host.now bytes now)).head.long in
    omega (arith, x_is)

pub returns-clause-images : goal.returns-clause-images
returns-clause-images g c =
    let t = c.args.table.now in
    let a = g.H.Host.outside c.args.host.now in
    let b = g.H.Host.outside c.write_page.new.host in
    let x_is = index_number_is t c.args.next c.index-number.result.now c.requires.ready c.index-number.ensures in
    kept_write a b t (get_or t.next.items 0 0) c.requires.ready.fit c.requires.ready.once (subst (λ (n : ℕ). IsSpare t n) (index_first t.next.items 0) (c.requires.ready.index 0 (deep_some c.args.next c.if-next-eq0.false))) c.requires.says
    (subst (λ (n : ℕ). Leaves a b (After (a.images a.clock) (Torn (4096 * n) 4096))) x_is c.write_page.ensures.images)

pub returns-clause-named : goal.returns-clause-named
returns-clause-named g c = on_ok_weaker c.write_page.result (λ wrote bytes now.
    let t = c.args.table.now in
    let after = wrote bytes now in
    let content = index_content t c.args.next c.index-number.result.now c.fill_index.new.page after.from bytes c.requires.ready (deep_some c.args.next c.if-next-eq0.false)
    (index_number_is t c.args.next c.index-number.result.now c.requires.ready c.index-number.ensures) c.fill_index.ensures.size
    (index_numbers t c.args.next c.deref.result.now c.map_count.result c.fill_index.new.page c.deref.ensures.value c.map_count.ensures c.fill_index.ensures.numbers)
    (c.requires.says after.from (g.met.H.Host.is_image c.args.host.now after.from after.was)) after.by (c.requires.maps after.from after.was) in
    (content.0, content.1)) c.write_page.ensures.wrote

pub returns-clause-staged : goal.returns-clause-staged
returns-clause-staged g c = on_ok_weaker c.write_page.result (λ wrote bytes now.
    let t = c.args.table.now in
    let after = wrote bytes now in
    let content = index_content t c.args.next c.index-number.result.now c.fill_index.new.page after.from bytes c.requires.ready (deep_some c.args.next c.if-next-eq0.false)
    (index_number_is t c.args.next c.index-number.result.now c.requires.ready c.index-number.ensures) c.fill_index.ensures.size
    (index_numbers t c.args.next c.deref.result.now c.map_count.result c.fill_index.new.page c.deref.ensures.value c.map_count.ensures c.fill_index.ensures.numbers)
    (c.requires.says after.from (g.met.H.Host.is_image c.args.host.now after.from after.was)) after.by (c.requires.maps after.from after.was) in
    record { from = after.from; was = after.was; by = content.2 }) c.write_page.ensures.wrote

pub returns-clause-calls : goal.returns-clause-calls
returns-clause-calls g c = let deep = deep_some c.args.next c.if-next-eq0.false in omega (arith, c.write_page.ensures.call.calls)
