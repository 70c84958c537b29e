use Rattle.std.proofs.Common.{◌≡◌, ◌<◌, ◌+◌, ◌*◌, ℕ, get_or}
use Rattle.volume_parts.specs.Layout.{number_at}
use Rattle.paged_volume.specs.Standing.{maps_of}
use Rattle.paged_volume.specs.Naming.{IsNaming, skipped}
use Rattle.paged_volume.proofs.names.take_maps.Given as goal

-- so many map pages were taken
abbrev pub invariant-loop-map_page : goal.invariant-loop-map_page
invariant-loop-map_page l =
    record {
      naming : IsNaming l.table l.fn.table.committed.depth l.map_page 0;
      committed : l.table.committed ≡ l.fn.table.committed;
      next : l.table.next.items ≡ l.fn.table.next.items;
      pins : l.table.pins.items ≡ l.fn.table.pins.items;
      first : get_or l.table.named.items 0 0 ≡ get_or l.fn.table.named.items 0 0;
      maps : (i : ℕ) → i < l.map_page → number_at (skipped l.fn.table.committed.depth + 4 * i) 4 l.fn.page ≡ maps_of l.table.named.items i;
    }
