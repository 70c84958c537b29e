use Rattle.std.proofs.Common.{◌≡◌, ℕ, ◌<◌, length, take, not, ◌&&◌}
use Rattle.page_map.specs.Pages.{is_free, one_names}
use Rattle.page_map.proofs.free_pages.FreePages.hold_each.Given as goal

-- the pages that a list so far names aren't free, and the others are as before
abbrev pub invariant-loop-list : goal.invariant-loop-list
invariant-loop-list l = record {
  long : length l.self ≡ length l.initial.self;
  free : (p : ℕ) → p < length l.initial.self → is_free l.self p ≡ (is_free l.initial.self p && not (one_names (take l.list-index l.lists) p));
}
