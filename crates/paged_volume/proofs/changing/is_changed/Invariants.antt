use Rattle.std.proofs.Common.{◌≡◌, ◌<◌, ◌+◌, ◌*◌, ℕ, false}
use Rattle.paged_volume.specs.Changing.{differs}
use Rattle.paged_volume.proofs.changing.is_changed.Given as goal

-- none of so many numbers changes
abbrev pub invariant-loop-index : goal.invariant-loop-index
invariant-loop-index l = record { none : (i : ℕ) → i < l.index → differs l.fn.map l.fn.logical (1024 * l.fn.map_page + i) ≡ false }
