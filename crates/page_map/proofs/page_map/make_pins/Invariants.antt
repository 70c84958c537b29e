use Rattle.std.proofs.Common.{◌≡◌, ◌≤◌, replicate, vec_len, vec_capacity}
use Rattle.page_map.specs.Pages.{no_pages}
use Rattle.page_map.proofs.page_map.make_pins.Given as goal

-- so many lists were made
abbrev pub invariant-loop : goal.invariant-loop
invariant-loop l = record {
  lists : l.lists.items ≡ replicate l.counter (no_pages l.logical);
  long : vec_len l.lists ≡ l.counter;
  room : l.pins ≤ vec_capacity l.lists;
}
