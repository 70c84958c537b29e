use Rattle.std.proofs.Common.{◌≡◌, ◌*◌, ◌++◌, drop}
use Rattle.page_map.specs.Numbers.{bytes_of, numbers_from}
use Rattle.page_map.proofs.page_map.PageMap.write_map_page.Given as goal

-- the numbers so far were written
abbrev pub invariant-loop-index : goal.invariant-loop-index
invariant-loop-index l = l.into ≡ bytes_of (numbers_from l.self-inside.staged l.first l.index) ++ drop (4 * l.index) l.initial.into
