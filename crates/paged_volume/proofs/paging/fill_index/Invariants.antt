use Rattle.std.proofs.Common.{◌≡◌, ◌<◌, ◌*◌, ℕ, length}
use Rattle.volume_parts.specs.Layout.{number_at}
use Rattle.paged_volume.specs.Standing.{maps_of}
use Rattle.paged_volume.proofs.paging.fill_index.Given as goal

-- so many numbers were written
abbrev pub invariant-loop-map_page : goal.invariant-loop-map_page
invariant-loop-map_page l =
    record {
      size : length l.page ≡ 4096;
      numbers : (i : ℕ) → i < l.map_page → number_at (4 * i) 4 l.page ≡ maps_of l.fn.named i;
    }
