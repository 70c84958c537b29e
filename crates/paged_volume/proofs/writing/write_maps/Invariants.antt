use Rattle.std.proofs.Common.{◌≡◌, ◌≤◌, ◌+◌, List, ℕ}
use Rattle.ps_port.specs.ps_outside.Outside.{Leaves, TellsNothing, After}
use Rattle.volume_parts.specs.Calls.{StaysHeld}
use Rattle.paged_volume.specs.Standing.{logical_of}
use Rattle.paged_volume.specs.Changing.{changed_pages}
use Rattle.paged_volume.specs.Switching.{IsKept, SamePages, HasMaps}
use Rattle.paged_volume.proofs.writing.write_maps.Given as goal

-- what is committed is kept, and so many map pages say the numbers that are committed next
abbrev pub invariant-loop-map_page : goal.invariant-loop-map_page
invariant-loop-map_page g l =
    let outside = g.H.Host.outside in
    record {
      kept : Leaves (outside l.fn.host) (outside l.host) (IsKept (outside l.fn.host) l.fn.table);
      maps : (bytes : List ℕ) → (outside l.host).contents bytes → HasMaps l.fn.table l.fn.next l.map_page bytes;
      staged : (bytes : List ℕ) → (outside l.host).contents bytes → After (outside l.fn.host).contents (SamePages l.fn.table) bytes;
      told : TellsNothing (outside l.fn.host) (outside l.host);
      counts : (outside l.fn.host).device_faults ≤ (outside l.host).device_faults;
      output : (outside l.host).output_faults ≡ (outside l.fn.host).output_faults;
      calls : (outside l.host).device_calls ≤ (outside l.fn.host).device_calls + changed_pages l.fn.table.map (logical_of l.fn.next) l.map_page;
      stays : StaysHeld (outside l.fn.host) (outside l.host);
    }
