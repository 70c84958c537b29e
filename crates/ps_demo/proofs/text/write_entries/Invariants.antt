-- The lines of so many entries are written.
use Rattle.std.proofs.Common.{◌≡◌, ◌++◌, map}
use Rattle.std.specs.List.{range_with_len}
use Rattle.ps_demo.specs.Demo.{entry_line, text_of_lines}
use Rattle.ps_demo.proofs.text.write_entries.Given as goal

abbrev pub invariant-loop-before : goal.invariant-loop-before
invariant-loop-before l = l.text.items ≡ l.initial.text.items ++ text_of_lines (map (entry_line l.number) (range_with_len 1 l.before))
