use Rattle.std.proofs.Common.{◌≡◌}
use Rattle.page_map.specs.Numbers.{first_numbers}
use Rattle.page_map.specs.Map.{AreGood, with_read}
use Rattle.page_map.proofs.page_map.PageMap.read_map_page.Given as goal

-- the numbers so far were good, and were read
abbrev pub invariant-loop-index : goal.invariant-loop-index
invariant-loop-index l = record {
  good : AreGood l.initial.self l.bytes l.index;
  read : l.self ≡ with_read l.initial.self l.number (first_numbers l.bytes l.index);
}
