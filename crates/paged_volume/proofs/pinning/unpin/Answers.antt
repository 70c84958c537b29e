use Rattle.std.proofs.Common.{ℕ, length, refl, sym, ap, subst, None}
use Rattle.std.specs.Vec.{with_item}
use Rattle.std.proofs.lemmas.Bool.{both_ways}
use Rattle.page_map.specs.Pages.{names, no_pages}
use Rattle.page_map.specs.Map.{MapView}
use Rattle.page_map.proofs.MapLaws.{names_no_pages}
use Rattle.paged_volume.specs.Standing.{IsTable}
use Rattle.paged_volume.proofs.PinLaws.{repinned_table}
use Rattle.paged_volume.proofs.pinning.unpin.Goals as goal

pub returns-clause-table : goal.returns-clause-table
returns-clause-table c =
    let t = c.args.table.now in
    let none = no_pages (length t.map.committed) in
    let other = record t { pins = with_item t.pins c.args.pin None } in
    subst (λ (m : MapView). IsTable (record { committed = t.committed; map = m; named = t.named; next = t.next; pins = with_item t.pins c.args.pin None })) (sym c.unpin.ensures)
    (repinned_table t other c.args.pin none None c.requires.table c.sound.ensures c.requires.pin (λ page some named. absurd (both_ways (names none page) (names_no_pages (length t.map.committed) page some) named)) refl
    (ap (λ (n : ℕ). no_pages n) c.requires.table.logical))
