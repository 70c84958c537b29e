use Rattle.std.proofs.Common.{◌≡◌, ℕ, ◌<◌, ◌≤◌, false, get_or}
use Rattle.page_map.proofs.free_pages.first_free.Given as goal

-- no page before this one is free
abbrev pub invariant-loop-page : goal.invariant-loop-page
invariant-loop-page l = (k : ℕ) → l.from ≤ k → k < l.page → get_or l.free k false ≡ false
