use Rattle.std.proofs.Common.{◌≡◌, ℕ, ◌<◌, length, take, not, ◌&&◌}
use Rattle.page_map.specs.Pages.{is_free, names}
use Rattle.page_map.proofs.free_pages.FreePages.hold.Given as goal

-- the pages that were named so far aren't free, and the others are as before
abbrev pub invariant-loop-page : goal.invariant-loop-page
invariant-loop-page l = record {
  long : length l.self ≡ length l.initial.self;
  free : (p : ℕ) → p < length l.initial.self → is_free l.self p ≡ (is_free l.initial.self p && not (names (take l.page-index l.list) p));
}
