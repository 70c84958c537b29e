use Rattle.std.proofs.Common.{◌*◌, ◌+◌, ◌≤◌, max, min, length, subst, arith, OnOk}
use Rattle.std.proofs.lemmas.Result.{on_ok_weaker}
use Rattle.obj_layout.proofs.of_ps_outside.PastMoments.{past_along, past_then}
use Rattle.paged_volume.specs.Standing.{seen}
use Rattle.paged_volume.specs.declared.table.Table.{Table}
use Rattle.obj_store.specs.Staging.{Marks}
use Rattle.obj_store.specs.Staging.{SamePins}
use Rattle.obj_store.specs.Lacking.{IsVolumeFault}
use Rattle.obj_store.proofs.LackLaws.{fault_then}
use Rattle.obj_store.proofs.TestLaws.{on_ok_of, if_err}
use Rattle.obj_store.proofs.WriteLaws.{pins_same, keeps_looks, keeps_then, part_turns, part_same, differs_not, leaves_same, on_ok_two, stages_looks, stages_then, marks_put, marks_none}
use Rattle.obj_store.proofs.writing.write_part.Goals as goal

pub returns-clause-turns : goal.returns-clause-turns
returns-clause-turns g c =
    let o = g.H.Host.outside in
    let v = c.args.volume.now in
    let w = c.read_kept.new.volume in
    let z = c.put_kept.new.volume in
    let a = c.args in
    let from_low : 512 * a.page ≤ max a.at (512 * a.page) = omega arith in
    let to_high : min (a.at + length a.from.now) (512 * a.page + 512) ≤ 512 * a.page + 512 = omega arith in
    on_ok_two c.put_kept.result (λ stays back.
    part_turns (o v.host) (o w.host) (o z.host) v.table w.table z.table a.page a.at
    (max a.at (512 * a.page)) (min (a.at + length a.from.now) (512 * a.page + 512)) a.from.now c.read_kept.new.into c.put_words-changes.new.page
    c.read_kept.ensures.looks.same c.read_kept.ensures.same c.requires.page c.read_kept.ensures.size
    c.in_ok-read_kept.ensures.read c.put_words-changes.ensures.put from_low to_high stays back) c.put_kept.ensures.stays c.put_kept.ensures.put

pub returns-then-is_there-clause-turns : goal.returns-then-is_there-clause-turns
returns-then-is_there-clause-turns g c =
    let o = g.H.Host.outside in
    let v = c.args.volume.now in
    let w = c.read_kept.new.volume in
    let a = c.args in
    let from_low : 512 * a.page ≤ max a.at (512 * a.page) = omega arith in
    let to_high : min (a.at + length a.from.now) (512 * a.page + 512) ≤ 512 * a.page + 512 = omega arith in
    let there = c.is_there.ensures.there c.if-is_there.true in
    part_same (o v.host) (o w.host) v.table w.table a.page a.at (max a.at (512 * a.page)) (min (a.at + length a.from.now) (512 * a.page + 512)) a.from.now c.read_kept.new.into
    c.read_kept.ensures.looks.same c.read_kept.ensures.same c.in_ok-read_kept.ensures.read from_low to_high c.put_words-changes.new.page c.put_words-changes.ensures.put (c.put_words-changes.ensures.same there.0)

pub returns-clause-unchanged : goal.returns-clause-unchanged
returns-clause-unchanged g c =
    let o = g.H.Host.outside in
    let v = c.args.volume.now in
    let w = c.read_kept.new.volume in
    let a = c.args in
    let from_low : 512 * a.page ≤ max a.at (512 * a.page) = omega arith in
    let to_high : min (a.at + length a.from.now) (512 * a.page + 512) ≤ 512 * a.page + 512 = omega arith in
    on_ok_of c.put_kept.result (λ below held was there. absurd (
    differs_not (o v.host) (o w.host) v.table w.table a.page a.at (max a.at (512 * a.page)) (min (a.at + length a.from.now) (512 * a.page + 512)) a.from.now c.read_kept.new.into
    c.read_kept.ensures.looks.same c.read_kept.ensures.same c.in_ok-read_kept.ensures.read from_low to_high
    (c.put_words-changes.ensures.changes (c.is_there.ensures.other c.if-is_there.false below)) held was there))

pub returns-then-is_there-clause-unchanged : goal.returns-then-is_there-clause-unchanged
returns-then-is_there-clause-unchanged g c = λ below.
    let o = g.H.Host.outside in
    let v = c.args.volume.now in
    let w = c.read_kept.new.volume in
    let a = c.args in
    leaves_same v.table w.table (o v.host) (o w.host) (max a.at (512 * a.page)) (min (a.at + length a.from.now) (512 * a.page + 512)) a.at a.from.now c.read_kept.ensures.same c.read_kept.ensures.looks.same

pub returns-clause-marks : goal.returns-clause-marks
returns-clause-marks g c =
    let z = c.put_kept.new.volume in
    subst (λ (t : Table). OnOk c.put_kept.result (Marks c.args.page (c.args.page + 1) t z.table)) c.read_kept.ensures.same
    (marks_put c.args.page c.read_kept.new.volume.table z.table c.put_kept.result c.put_kept.ensures.marks)

pub returns-then-is_there-clause-marks : goal.returns-then-is_there-clause-marks
returns-then-is_there-clause-marks g c =
    let there = c.is_there.ensures.there c.if-is_there.true in
    marks_none c.args.page c.args.had c.args.volume.now.table c.read_kept.new.volume.table c.read_kept.ensures.same c.requires.has there.1

pub returns-clause-stages : goal.returns-clause-stages
returns-clause-stages g c =
    let o = g.H.Host.outside in
    let v = c.args.volume.now in
    let w = c.read_kept.new.volume in
    let z = c.put_kept.new.volume in
    stages_then (seen v.table (o v.host)) (seen w.table (o w.host)) (seen z.table (o z.host)) 1 1 2
    (stages_looks v.table w.table (o v.host) (o w.host) 1 c.read_kept.ensures.looks)
    c.put_kept.ensures.stages (omega arith)

pub returns-clause-past : goal.returns-clause-past
returns-clause-past g c = past_then (past_along c.read_kept.ensures.looks.images) c.put_kept.ensures.past

pub returns-clause-pins : goal.returns-clause-pins
returns-clause-pins g c = subst (λ (t : Table). SamePins t c.put_kept.new.volume.table) c.read_kept.ensures.same c.put_kept.ensures.pins

pub returns-then-is_there-clause-pins : goal.returns-then-is_there-clause-pins
returns-then-is_there-clause-pins g c = pins_same c.args.volume.now.table c.read_kept.new.volume.table c.read_kept.ensures.same

pub returns-in_err-read_kept-clause-pins : goal.returns-in_err-read_kept-clause-pins
returns-in_err-read_kept-clause-pins g c = pins_same c.args.volume.now.table c.read_kept.new.volume.table c.read_kept.ensures.same

pub returns-clause-fault : goal.returns-clause-fault
returns-clause-fault g c =
    let o = g.H.Host.outside in
    let v = c.args.volume.now in
    let w = c.read_kept.new.volume in
    let z = c.put_kept.new.volume in
    if_err (IsVolumeFault (o w.host) (o z.host) z.table 1) (IsVolumeFault (o v.host) (o z.host) z.table 1) c.put_kept.result
    (λ fault is. fault_then (o v.host) (o w.host) (o z.host) z.table 1 fault c.read_kept.ensures.looks.counts is) c.put_kept.ensures.fault

pub returns-clause-pinned : goal.returns-clause-pinned
returns-clause-pinned g c =
    let o = g.H.Host.outside in
    let v = c.args.volume.now in
    let w = c.read_kept.new.volume in
    let z = c.put_kept.new.volume in
    on_ok_weaker c.put_kept.result
    (keeps_then v.table w.table z.table (o v.host) (o w.host) (o z.host) (keeps_looks v.table w.table (o v.host) (o w.host) c.read_kept.ensures.same c.read_kept.ensures.looks.same)) c.put_kept.ensures.pinned

pub returns-then-is_there-clause-pinned : goal.returns-then-is_there-clause-pinned
returns-then-is_there-clause-pinned g c =
    let o = g.H.Host.outside in
    let v = c.args.volume.now in
    let w = c.read_kept.new.volume in
    keeps_looks v.table w.table (o v.host) (o w.host) c.read_kept.ensures.same c.read_kept.ensures.looks.same
