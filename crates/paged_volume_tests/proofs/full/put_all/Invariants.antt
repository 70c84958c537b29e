use Rattle.std.proofs.Common.{◌≡◌, length}
use Rattle.memory_host.specs.Memory.{outside_of}
use Rattle.paged_volume.specs.Standing.{IsAlive}
use Rattle.paged_volume_tests.proofs.full.put_all.Given as goal

-- the volume lives, with as many pins
abbrev pub invariant-loop-page : goal.invariant-loop-page
invariant-loop-page l = record {
  alive : IsAlive l.volume.live l.volume.table (outside_of l.volume.host);
  pins : length l.volume.table.pins.items ≡ length l.fn.volume.table.pins.items;
}
