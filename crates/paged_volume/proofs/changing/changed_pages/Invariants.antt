use Rattle.std.proofs.Common.{◌≡◌}
use Rattle.paged_volume.specs.Changing.{changed_pages}
use Rattle.paged_volume.proofs.changing.changed_pages.Given as goal

-- so many changed of the first ones
abbrev pub invariant-loop-map_page : goal.invariant-loop-map_page
invariant-loop-map_page l = record { counted : l.changed ≡ changed_pages l.fn.map l.fn.logical l.map_page }
