use Rattle.std.proofs.Common.{◌≡◌, ℕ, ◌<◌, length, take, not, ◌&&◌, ◌||◌}
use Rattle.page_map.specs.Pages.{is_free, may_be_free, names}
use Rattle.page_map.proofs.free_pages.FreePages.release_unmarked.Given as goal

-- the pages that were named so far and have no mark are free where they may be, and the others are as before
abbrev pub invariant-loop-page : goal.invariant-loop-page
invariant-loop-page l = record {
  long : length l.self ≡ length l.initial.self;
  free : (p : ℕ) → p < length l.initial.self → is_free l.self p ≡ (is_free l.initial.self p || (may_be_free p && (names (take l.page-index l.list) p && not (is_free l.marks p))));
}
