use Rattle.std.proofs.Common.{◌∙◌, ◌+◌, ◌-◌, ◌*◌, ◌/◌, ◌^◌, ◌<◌, max, min, length, arith, refl}
use Rattle.obj_layout.proofs.of_ps_outside.PastMoments.{past_then}
use Rattle.paged_volume.specs.Standing.{seen}
use Rattle.obj_store.specs.Words.{HoldsPut}
use Rattle.obj_store.specs.StoreLaws.{words_low}
use Rattle.obj_store.proofs.LackLaws.{fault_then}
use Rattle.obj_store.proofs.WriteLaws.{pins_then, keeps_then, turns_then, next_put, marks_then, leaves_then, stages_then, calls_fit}
use Rattle.obj_store.proofs.writing.write_words.Goals as goal

pub overflow_cast-first : goal.overflow_cast-first
overflow_cast-first g c =
    let few = words_low c.args.volume.now.table.committed c.requires.alive.is_table.fit in
    let within = c.requires.within in
    omega arith

pub overflow_add-at : goal.overflow_add-at
overflow_add-at g c =
    let few = words_low c.args.volume.now.table.committed c.requires.alive.is_table.fit in
    let within = c.requires.within in
    omega arith

pub logical_pages-last-requires : goal.logical_pages-last-requires
logical_pages-last-requires g c =
    let few = words_low c.args.volume.now.table.committed c.requires.alive.is_table.fit in
    let within = c.requires.within in
    let fits : c.args.at + length c.args.from.now + 511 < 2 ^ 64 = omega arith in
    fits

pub overflow_cast-last : goal.overflow_cast-last
overflow_cast-last g c =
    let few = words_low c.args.volume.now.table.committed c.requires.alive.is_table.fit in
    let within = c.requires.within in
    omega (arith, c.logical_pages-last.ensures)

pub returns-in-Err-clause-stages : goal.returns-in-Err-clause-stages
returns-in-Err-clause-stages g c =
    let o = g.H.Host.outside in
    let v = c.args.volume.now in
    let w = c.loop-page.volume in
    let z = c.write_part.new.volume in
    let page = c.loop-page.page in
    let low = c.loop-page.auto.page in
    stages_then (seen v.table (o v.host)) (seen w.table (o w.host)) (seen z.table (o z.host)) (2 * (page - c.args.at / 512)) 2 _
    c.loop-page.invariant.stages c.write_part.ensures.stages
    (calls_fit c.args.at (length c.args.from.now) page (c.args.at / 512) refl low (let lt = c.loop-page-test.true in omega (arith, c.logical_pages-last.ensures)))

pub loop-page-preserved : goal.loop-page-preserved
loop-page-preserved g c =
    let o = g.H.Host.outside in
    let v = c.args.volume.now in
    let w = c.loop-page.volume in
    let z = c.write_part.new.volume in
    let page = c.loop-page.page in
    let low = c.loop-page.auto.page in
    let lt = c.loop-page-test.true in
    let inv = c.loop-page.invariant in
    let at = c.args.at in
    let put = c.args.from.now in
    let starts : 512 * page < at + length put = omega (arith, c.logical_pages-last.ensures) in
    let ends : at < 512 * page + 512 = omega arith in
    let one = HoldsPut at (max at (min (at + length put) (512 * page))) at put in
    let two = HoldsPut (max at (512 * page)) (min (at + length put) (512 * page + 512)) at put in
    let whole = HoldsPut at (max at (min (at + length put) (512 * (page + 1)))) at put in
    record {
      turns = turns_then (seen v.table (o v.host)) (seen w.table (o w.host)) (seen z.table (o z.host))
          one two whole inv.turns c.in-Ok.ensures.turns (λ x y z first next. next_put at (length put) page put x y z starts ends first next);
      stages = stages_then (seen v.table (o v.host)) (seen w.table (o w.host)) (seen z.table (o z.host))
          (2 * (page - at / 512)) 2 _ inv.stages c.write_part.ensures.stages (omega arith);
      past = past_then inv.past c.write_part.ensures.past;
      committed = c.write_part.ensures.committed ∙ inv.committed;
      pins = pins_then v.table w.table z.table inv.pins c.write_part.ensures.pins;
      pinned = keeps_then v.table w.table z.table (o v.host) (o w.host) (o z.host) inv.pinned c.in-Ok.ensures.pinned;
      marks = marks_then (at / 512) page (page + 1) v.table w.table z.table (omega arith) (omega arith) inv.marks c.in-Ok.ensures.marks;
      unchanged = λ few. leaves_then v.table w.table z.table (o v.host) (o w.host) (o z.host) at (at + length put) (max at (512 * page)) (min (at + length put) (512 * page + 512)) at put (omega arith) (omega arith)
          (inv.unchanged few) (c.in-Ok.ensures.unchanged (omega arith));
      kept = c.in-Ok.ensures.kept;
      alive = c.in-Ok.ensures.alive;
    }

pub returns-in-Err-clause-past : goal.returns-in-Err-clause-past
returns-in-Err-clause-past g c = past_then c.loop-page.invariant.past c.write_part.ensures.past

pub returns-in-Err-clause-pins : goal.returns-in-Err-clause-pins
returns-in-Err-clause-pins g c = pins_then c.args.volume.now.table c.loop-page.volume.table c.write_part.new.volume.table c.loop-page.invariant.pins c.write_part.ensures.pins

pub returns-in-Err-clause-fault : goal.returns-in-Err-clause-fault
returns-in-Err-clause-fault g c =
    let o = g.H.Host.outside in
    let v = c.args.volume.now in
    let w = c.loop-page.volume in
    let z = c.write_part.new.volume in
    fault_then (o v.host) (o w.host) (o z.host) z.table 1 c.in-Err.fault c.loop-page.invariant.stages.counts c.in-Err.ensures.fault
