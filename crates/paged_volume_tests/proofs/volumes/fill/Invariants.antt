use Rattle.std.proofs.Common.{◌≡◌}
use Rattle.memory_host.specs.Memory.{outside_of}
use Rattle.paged_volume.specs.Standing.{IsAlive}
use Rattle.paged_volume.specs.Staging.{HasPages}
use Rattle.paged_volume_tests.proofs.volumes.fill.Given as goal

-- the pages so far were put
abbrev pub invariant-loop-page : goal.invariant-loop-page
invariant-loop-page l = record {
  alive : IsAlive l.volume.live l.volume.table (outside_of l.volume.host);
  has : HasPages l.volume.table l.page;
  committed : l.volume.table.committed ≡ l.fn.volume.table.committed;
  pins : l.volume.table.pins.items ≡ l.fn.volume.table.pins.items;
}
