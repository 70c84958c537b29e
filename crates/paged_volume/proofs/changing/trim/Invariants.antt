use Rattle.std.proofs.Common.{◌≡◌, ◌<◌, ◌≤◌, ℕ, length, get_or}
use Rattle.paged_volume.proofs.changing.trim.Given as goal

-- no page up to here is staged past the logical ones
abbrev pub invariant-loop-page : goal.invariant-loop-page
invariant-loop-page l =
    record {
      committed : l.map.committed ≡ l.fn.map.committed;
      pins : l.map.pins ≡ l.fn.map.pins;
      free : l.map.free ≡ l.fn.map.free;
      size : length l.map.staged ≡ length l.fn.map.staged;
      front : (k : ℕ) → k < l.fn.logical → get_or l.map.staged k 0 ≡ get_or l.fn.map.staged k 0;
      zeros : (k : ℕ) → l.fn.logical ≤ k → k < l.page → get_or l.map.staged k 0 ≡ 0;
    }
