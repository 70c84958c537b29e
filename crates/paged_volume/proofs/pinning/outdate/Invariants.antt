use Rattle.std.proofs.Common.{◌≡◌, ◌<◌, ◌≤◌, ℕ, get_or, None}
use Rattle.paged_volume.specs.Pinning.{outdated}
use Rattle.paged_volume.proofs.pinning.outdate.Given as goal

-- so many pins are outdated
abbrev pub invariant-loop-held : goal.invariant-loop-held
invariant-loop-held l = record {
  front : (k : ℕ) → k < l.held-index → get_or l.pins k None ≡ outdated (get_or l.fn.pins k None);
  rest : (k : ℕ) → l.held-index ≤ k → get_or l.pins k None ≡ get_or l.fn.pins k None;
}
