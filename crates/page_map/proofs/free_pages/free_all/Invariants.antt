use Rattle.std.proofs.Common.{◌≡◌, ℕ, ◌<◌, false, get_or}
use Rattle.page_map.specs.Pages.{may_be_free}
use Rattle.page_map.proofs.free_pages.free_all.Given as goal

-- the pages before this one are free where they may be
abbrev pub invariant-loop-page : goal.invariant-loop-page
invariant-loop-page l = (k : ℕ) → k < l.page → get_or l.free k false ≡ may_be_free k
