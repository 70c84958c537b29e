-- The disk model at once: what a crash may leave behind the last sync, and the law that this is what the
-- steps leave.
use Rattle.std.specs.Prelude.{◌≡◌, ◌↔◌, ℕ, ◌+◌, ◌<◌, ◌≤◌, max, true, false, List, [], ◌∷◌, length, slice_index}
use Rattle.memory_host.specs.declared.memory_host.Act.{Act}
use Rattle.memory_host.specs.declared.memory_host.Act.TheVariants.{Looked, Told, Wrote, Synced}
use Rattle.ps_port.specs.Disk.{IsOutside}
use Rattle.memory_host.specs.Memory.{Event, contents_after, IsImage}

-- the ranges that were written since the last sync that succeeded
abbrev pub ranges_step : Act → ℕ → List (ℕ × ℕ) → List (ℕ × ℕ)
ranges_step Looked count ranges = ranges
ranges_step Told count ranges = ranges
ranges_step (Wrote at done) count ranges = (at, count) ∷ ranges
ranges_step (Synced true) count ranges = []
ranges_step (Synced false) count ranges = ranges

abbrev pub ranges_of : List Event → List (ℕ × ℕ)
ranges_of [] = []
ranges_of (event ∷ events) = ranges_step event.act (length event.bytes) (ranges_of events)

-- the contents at that sync
abbrev pub synced_step : Act → List ℕ → List ℕ → List ℕ
synced_step Looked contents synced = synced
synced_step Told contents synced = synced
synced_step (Wrote at done) contents synced = synced
synced_step (Synced true) contents synced = contents
synced_step (Synced false) contents synced = synced

abbrev pub synced_of : List ℕ → List Event → List ℕ
synced_of first [] = first
synced_of first (event ∷ events) = synced_step event.act (contents_after first events) (synced_of first events)

-- the greatest length
abbrev pub end_of : List ℕ → List (ℕ × ℕ) → ℕ
end_of synced [] = length synced
end_of synced (range ∷ ranges) = max (end_of synced ranges) (range.0 + range.1)

-- the place is in none of the ranges
abbrev pub Misses : List (ℕ × ℕ) → ℕ → Type 0
Misses [] k = Unit {0}
Misses (range ∷ ranges) k = IsOutside range.0 range.1 k × Misses ranges k

-- Any bytes in the ranges and past the old end, any length from the old end to the new one, and the bytes
-- elsewhere as they were.
pub record IsLeft (synced : List ℕ) (ranges : List (ℕ × ℕ)) (image : List ℕ) : Type 0 where
  pub no_shorter : length synced ≤ length image
  pub no_longer : length image ≤ end_of synced ranges
  pub elsewhere : (k : ℕ) → k < length synced → Misses ranges k → slice_index image k ≡ slice_index synced k

abbrev pub IsDiskModel : Type 0
IsDiskModel = (first : List ℕ) (events : List Event) (image : List ℕ) → IsImage first events image ↔ IsLeft (synced_of first events) (ranges_of events) image
