use Rattle.std.proofs.Common.{Some, ◌<◌, ◌^◌, ℕ, ◌+◌, ◌/◌, ◌≤◌, length, sym, ap, subst, ◌∙◌, arith}
use Rattle.obj_layout.proofs.of_ps_outside.PastMoments.{past_along, past_then}
use Rattle.paged_volume.specs.Standing.{seen}
use Rattle.paged_volume.specs.declared.committed.Committed.{Committed}
use Rattle.paged_volume.specs.declared.table.Table.{Table}
use Rattle.obj_layout.specs.Stored.{overwritten}
use Rattle.obj_layout.specs.Storing.{writing}
use Rattle.obj_store.specs.Spaces.{IsInOrder, spaces}
use Rattle.obj_store.specs.Tested.{IsOverwriteFault}
use Rattle.obj_store.proofs.LackLaws.{fault_then, fault_told}
use Rattle.obj_store.proofs.FaultLaws.{overwrite_refused}
use Rattle.obj_store.specs.Words.{HoldsPut}
use Rattle.volume_parts.specs.Layout.{pages_of_words}
use Rattle.paged_volume.specs.Staging.{HasPages}
use Rattle.obj_store.specs.StoreLaws.{order_low}
use Rattle.obj_store.proofs.ChangeLaws.{becomes_of, joins_overwrite}
use Rattle.obj_store.proofs.WriteLaws.{keeps_looks, keeps_then, stages_looks, stages_then, turns_looks, has_kept}
use Rattle.obj_store.proofs.objects.overwrite_at.Goals as goal

pub returns-in-Ok-clause-becomes : goal.returns-in-Ok-clause-becomes
returns-in-Ok-clause-becomes g c =
    let o = g.H.Host.outside in
    let v = c.args.volume.now in
    let w = c.object_at.new.volume in
    let z = c.write_words.new.volume in
    let put = c.args.words.now in
    let used = c.args.used in
    let pid = c.args.pid in
    let order = c.requires.order in
    let fits = c.in_ok-_header.ensures.fits in
    let within : pid + length put ≤ used = omega (arith, fits.within, fits.as_wanted) in
    let same = c.object_at.ensures.same in
    becomes_of used used v.table z.table (o v.host) (o z.host) (HoldsPut pid (pid + length put) pid put) (overwritten pid put)
    (turns_looks v.table w.table (o v.host) (o w.host) (seen z.table (o z.host)) (HoldsPut pid (pid + length put) pid put)
    same c.object_at.ensures.looks.same c.in-Ok.ensures.turns)
    order (subst (λ (k : Committed). IsInOrder used k) (sym (c.write_words.ensures.committed ∙ ap (λ (t : Table). t.committed) same)) order) (λ x y is. joins_overwrite used pid put x y within is)

pub returns-in-Ok-clause-stages : goal.returns-in-Ok-clause-stages
returns-in-Ok-clause-stages g c =
    let o = g.H.Host.outside in
    let v = c.args.volume.now in
    let w = c.object_at.new.volume in
    let z = c.write_words.new.volume in
    stages_then (seen v.table (o v.host)) (seen w.table (o w.host)) (seen z.table (o z.host)) 2 (length c.args.words.now / 256 + 4) (writing (length c.args.words.now))
    (stages_looks v.table w.table (o v.host) (o w.host) 2 c.object_at.ensures.looks) c.write_words.ensures.stages (omega arith)

pub returns-in-Err-clause-stages : goal.returns-in-Err-clause-stages
returns-in-Err-clause-stages g c =
    let o = g.H.Host.outside in
    let v = c.args.volume.now in
    let w = c.object_at.new.volume in
    let z = c.write_words.new.volume in
    stages_then (seen v.table (o v.host)) (seen w.table (o w.host)) (seen z.table (o z.host)) 2 (length c.args.words.now / 256 + 4) (writing (length c.args.words.now))
    (stages_looks v.table w.table (o v.host) (o w.host) 2 c.object_at.ensures.looks) c.write_words.ensures.stages (omega arith)

pub returns-in-Ok-clause-past : goal.returns-in-Ok-clause-past
returns-in-Ok-clause-past g c = past_then (past_along c.object_at.ensures.looks.images) c.write_words.ensures.past

pub returns-in-Err-clause-past : goal.returns-in-Err-clause-past
returns-in-Err-clause-past g c = past_then (past_along c.object_at.ensures.looks.images) c.write_words.ensures.past

pub logical_pages-had-requires : goal.logical_pages-had-requires
logical_pages-had-requires g c =
    let low = order_low c.args.used c.args.volume.now.table.committed c.requires.order in
    let few = low.1 in
    let fits : c.args.used + 511 < 2 ^ 64 = omega arith in
    fits

pub overflow_cast-had : goal.overflow_cast-had
overflow_cast-had g c =
    let low = order_low c.args.used c.args.volume.now.table.committed c.requires.order in
    let few = low.1 in
    omega (arith, c.logical_pages-had.ensures)

pub write_words-requires-clause-has : goal.write_words-requires-clause-has
write_words-requires-clause-has g c =
    subst (λ (n : ℕ). HasPages c.object_at.new.volume.table n) (sym c.logical_pages-had.ensures)
    (subst (λ (t : Table). HasPages t (pages_of_words c.args.used)) (sym c.object_at.ensures.same) c.requires.has)

pub returns-in-Ok-clause-has : goal.returns-in-Ok-clause-has
returns-in-Ok-clause-has g c =
    has_kept (pages_of_words c.args.used) _ _ c.object_at.new.volume.table c.write_words.new.volume.table
    (subst (λ (t : Table). HasPages t (pages_of_words c.args.used)) (sym c.object_at.ensures.same) c.requires.has) c.in-Ok.ensures.marks

pub returns-in-Err-clause-fault : goal.returns-in-Err-clause-fault
returns-in-Err-clause-fault g c =
    let o = g.H.Host.outside in
    let v = c.args.volume.now in
    let w = c.object_at.new.volume in
    let z = c.write_words.new.volume in
    let used = c.args.used in
    let wanted = Some (length c.args.words.now) in
    subst (IsOverwriteFault (spaces used v.table (o v.host)) (spaces used z.table (o z.host)) z.table c.args.pid wanted) (sym c.vault_fault.ensures)
    (overwrite_refused used v.table z.table (o v.host) (o z.host) c.args.pid wanted _
    (fault_told (o v.host) (o z.host) z.table 1 c.in-Err.fault (fault_then (o v.host) (o w.host) (o z.host) z.table 1 c.in-Err.fault c.object_at.ensures.looks.counts c.in-Err.ensures.fault)))

pub returns-in-Ok-clause-pinned : goal.returns-in-Ok-clause-pinned
returns-in-Ok-clause-pinned g c =
    let o = g.H.Host.outside in
    let v = c.args.volume.now in
    let w = c.object_at.new.volume in
    let z = c.write_words.new.volume in
    keeps_then v.table w.table z.table (o v.host) (o w.host) (o z.host) (keeps_looks v.table w.table (o v.host) (o w.host) c.object_at.ensures.same c.object_at.ensures.looks.same) c.in-Ok.ensures.pinned
