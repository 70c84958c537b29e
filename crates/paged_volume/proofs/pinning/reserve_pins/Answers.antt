use Rattle.std.proofs.Common.{sym, subst, rules}
use Rattle.page_map.specs.Map.{MapView}
use Rattle.paged_volume.specs.Standing.{IsTable}
use Rattle.paged_volume.proofs.PinLaws.{none_pinned, reserved_table}
use Rattle.paged_volume.proofs.pinning.reserve_pins.Goals as goal

pub reserve_pins-requires-clause-none : goal.reserve_pins-requires-clause-none
reserve_pins-requires-clause-none c =
    let t = c.args.table.now in
    none_pinned t (record t { pins = c.in_ok-held.held }) c.args.pins c.requires.table c.requires.none (c.in_ok-held.ensures.items_if_clones_equal (λ y same. search rules))

pub returns-clause-table : goal.returns-clause-table
returns-clause-table c =
    let t = c.args.table.now in
    subst (λ (m : MapView). IsTable (record { committed = t.committed; map = m; named = t.named; next = t.next; pins = c.in_ok-held.held })) (sym c.in_ok-reserve_pins.ensures.ok)
    (reserved_table t (record t { pins = c.in_ok-held.held }) c.args.pins c.requires.table c.requires.none (c.in_ok-held.ensures.items_if_clones_equal (λ y same. search rules)))
