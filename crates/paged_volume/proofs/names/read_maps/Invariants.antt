use Rattle.std.proofs.Common.{◌≡◌, ◌<◌, ◌*◌, ℕ, List, min, slice_index}
use Rattle.volume_parts.specs.Layout.{number_at}
use Rattle.volume_parts.specs.Calls.{Looks}
use Rattle.paged_volume.specs.Standing.{place_by, logical_of, map_count}
use Rattle.paged_volume.specs.Naming.{IsNaming}
use Rattle.paged_volume.proofs.names.read_maps.Given as goal

-- so many map pages were read
abbrev pub invariant-loop-map_page : goal.invariant-loop-map_page
invariant-loop-map_page g l =
    let outside = g.H.Host.outside in
    let says = l.fn.table.committed in
    record {
      naming : IsNaming l.table says.depth (map_count says) (min (logical_of says) (1024 * l.map_page));
      committed : l.table.committed ≡ says;
      named : l.table.named.items ≡ l.fn.table.named.items;
      next : l.table.next.items ≡ l.fn.table.next.items;
      pins : l.table.pins.items ≡ l.fn.table.pins.items;
      pages : (bytes : List ℕ) → (outside l.fn.host).contents bytes → (page : ℕ) → page < min (logical_of says) (1024 * l.map_page) →
          number_at (place_by l.fn.table.named.items page) 4 bytes ≡ slice_index l.table.map.staged page;
      looks : Looks (outside l.fn.host) (outside l.host) l.map_page;
    }
