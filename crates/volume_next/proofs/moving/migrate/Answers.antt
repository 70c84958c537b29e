use Rattle.std.proofs.Common.{◌≡◌, ℕ, ◌+◌, ◌/◌, ◌≤◌, true, false, List, sym, subst, refl, ap, ◌∙◌, arith, Ok, Err}
use Rattle.volume_parts.specs.declared.note.Note.{Note}
use Rattle.volume_parts.specs.declared.open_fault.OpenFault.TheVariants.{Device}
use Rattle.volume_parts.proofs.Looking.{rose_then}
use Rattle.paged_volume.specs.Committing.{Switches}
use Rattle.paged_volume.specs.Planning.{switched}
use Rattle.paged_volume.specs.Standing.{seen}
use Rattle.paged_volume.specs.declared.volume.VolumeFault.{VolumeFault}
use Rattle.paged_volume.specs.Layout.{map_pages_of}
use Rattle.paged_volume.specs.Standing.{map_count}
use Rattle.paged_volume.specs.declared.committed.Committed.{Committed}
use Rattle.paged_volume.proofs.Held.{found_volume}
use Rattle.volume_parts.specs.Layout.{pages_of_words}
use Rattle.volume_next.specs.Moving.{IsMigrated, IsUnmoved, cut, lacks_at, lacks_index}
use Rattle.volume_next.proofs.MovingLaws.{looked_alone, committed_once, committed_few, switched_moves, switched_lacks, indexed_by, few_maps, switch_failed}
use Rattle.volume_next.proofs.moving.migrate.Goals as goal

pub returns-then-pages-lt-LEAST_INDEXED-clause-ok : goal.returns-then-pages-lt-LEAST_INDEXED-clause-ok
returns-then-pages-lt-LEAST_INDEXED-clause-ok g c =
    let o = g.H.Host.outside in
    let v = c.in_ok-volume.volume in
    subst (λ (h : g.row.H.Denot). IsMigrated (o c.args.host) (o h) false) (sym c.release.ensures) (looked_alone (o c.args.host) (o v.host) v.live v.table c.in_ok-volume.ensures.ok)

-- as many as there are map pages, and six
switch_calls : (calls before : ℕ) (committed : Committed) (note : Note) → note ≡ committed.note → calls ≤ before + ((note.used + 524287) / 524288 + 6) → calls ≤ before + (map_count committed + 6)
switch_calls calls before committed note is low =
    let used = ap (λ (n : Note). map_pages_of (pages_of_words n.used)) is in
    omega (arith, few_maps note.used)

pub returns-in-Ok-clause-moved : goal.returns-in-Ok-clause-moved
returns-in-Ok-clause-moved g c =
    let z = c.switch.new.self in
    let o = g.H.Host.outside in
    subst (λ (h : g.row.H.Denot). (bytes : List ℕ) → (o h).contents bytes → lacks_index bytes ≡ false) (sym c.release-in-Ok.ensures)
    (λ bytes at. indexed_by z.table.committed bytes
    (found_volume z.table bytes c.in-Ok.ensures.alive.is_table.fit c.in-Ok.ensures.alive.is_table.once (c.in-Ok.ensures.alive.says bytes (g.met.H.Host.is_image z.host bytes at)))
    (ap (λ (k : Committed). lacks_at k.pages k.depth) c.in-Ok.ensures.committed ∙ switched_lacks c.in_ok-volume.volume.table.committed.pages))

pub returns-in-Ok-clause-ok : goal.returns-in-Ok-clause-ok
returns-in-Ok-clause-ok g c =
    let o = g.H.Host.outside in
    let v = c.in_ok-volume.volume in
    let z = c.switch.new.self in
    let is = subst (λ (n : Note). Switches {T = Unit {0}} {E = VolumeFault} (seen v.table (o v.host)) (seen z.table (o z.host)) v.table.committed.pages n.used n.directory (Ok tt))
    c.note-note.ensures c.in-Ok.ensures.switches in
    subst (λ (h : g.row.H.Denot). IsMigrated (o c.args.host) (o h) true) (sym c.release-in-Ok.ensures)
    (committed_once (o c.args.host) (o v.host) v.live v.table c.in_ok-volume.ensures.ok (o z.host) z.table c.switch.ensures.past is.told is.images is.kept is.stays
    (g.met.H.Host.is_image z.host) (g.met.H.Host.one c.args.host) is.counts is.output (switch_calls _ _ v.table.committed c.note-note.result c.note-note.ensures c.switch.ensures.calls.most))

pub returns-in-Err-clause-err : goal.returns-in-Err-clause-err
returns-in-Err-clause-err g c =
    let o = g.H.Host.outside in
    let v = c.in_ok-volume.volume in
    let z = c.switch.new.self in
    let fault = c.in-Err.field-0 in
    let attached = c.in_ok-volume.ensures.ok in
    let is = subst (λ (n : Note). Switches {T = Unit {0}} {E = VolumeFault} (seen v.table (o v.host)) (seen z.table (o z.host)) v.table.committed.pages n.used n.directory (Err fault))
    c.note-note.ensures c.in-Err.ensures.switches in
    let rose = switch_failed o v.host z.host v.live z.live v.table z.table (switched c.note-note.result.used c.note-note.result.directory v.table.committed) fault attached.unpinned c.in-Err.ensures.fault in
    subst (λ (h : g.row.H.Denot). IsUnmoved (o c.args.host) (o h) Device) (sym c.release-in-Err.ensures)
    (cut refl (rose_then (o c.args.host).device_faults (o v.host).device_faults (o z.host).device_faults attached.looks.counts rose)
    (switched_moves (o c.args.host) (o v.host) v.live v.table attached (o z.host) z.table c.switch.ensures.past is.told is.images is.counts is.output)
    (committed_few (o c.args.host) (o v.host) v.live v.table attached (o z.host) (switch_calls _ _ v.table.committed c.note-note.result c.note-note.ensures c.switch.ensures.calls.most)))
