use Rattle.paged_volume.specs.Standing.{logical_of}
use Rattle.paged_volume.specs.Planning.{IsChosen}
use Rattle.paged_volume.proofs.planning.choose.Given as goal

-- so many map pages have their pages
abbrev pub invariant-loop-map_page : goal.invariant-loop-map_page
invariant-loop-map_page l = IsChosen l.fn.map l.map l.fn.named l.chosen (logical_of l.fn.next) l.fn.next.depth l.map_page
