use Rattle.std.proofs.Common.{refl, sym, subst, Some, true}
use Rattle.std.specs.Vec.{with_item}
use Rattle.page_map.specs.Map.{MapView}
use Rattle.paged_volume.specs.Standing.{IsTable}
use Rattle.paged_volume.specs.declared.pinned.Pinned.{Pinned}
use Rattle.paged_volume.proofs.PinLaws.{repinned_table, commit_is}
use Rattle.paged_volume.proofs.pinning.pin.Goals as goal

pub returns-clause-table : goal.returns-clause-table
returns-clause-table c =
    let t = c.args.table.now in
    let held : Pinned = record { note = t.committed.note; current = true } in
    let other = record t { pins = with_item t.pins c.args.pin (Some held) } in
    subst (λ (m : MapView). IsTable (record { committed = t.committed; map = m; named = t.named; next = t.next; pins = with_item t.pins c.args.pin (Some held) })) (sym c.pin.ensures)
    (repinned_table t other c.args.pin t.map.committed (Some held) c.requires.table c.sound.ensures c.requires.pin (λ page some named. named) refl (commit_is t _ c.requires.table refl refl refl))
