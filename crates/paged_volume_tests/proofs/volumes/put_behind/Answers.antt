use Rattle.std.proofs.Common.{◌≡◌, ◌+◌, ◌<◌, ◌^◌, ap, arith}
use Rattle.paged_volume.specs.volume_parts.declared.note.Note.{Note}
use Rattle.paged_volume.proofs.Bounds.{are_low}
use Rattle.paged_volume_tests.proofs.volumes.put_behind.Goals as goal

pub logical_pages-page-requires : goal.logical_pages-page-requires
logical_pages-page-requires c =
    let t = c.args.volume.now.table in
    let low = are_low t.committed c.requires.is_table.fit in
    let used = low.used in
    let same : c.note.result.used ≡ t.committed.note.used = ap (λ (n : Note). n.used) c.note.ensures in
    let fits : c.note.result.used + 511 < 2 ^ 64 = omega arith in
    fits

pub overflow_cast-page : goal.overflow_cast-page
overflow_cast-page c =
    let t = c.args.volume.now.table in
    let low = are_low t.committed c.requires.is_table.fit in
    let used = low.used in
    let same : c.note.result.used ≡ t.committed.note.used = ap (λ (n : Note). n.used) c.note.ensures in
    omega (arith, c.logical_pages-page.ensures)
