-- So many blanks are written.
use Rattle.std.proofs.Common.{◌≡◌, ◌++◌, replicate}
use Rattle.ps_lexemes.proofs.writer.write_line.Given as goal

abbrev pub invariant-loop : goal.invariant-loop
invariant-loop l = l.text.items ≡ l.initial.text.items ++ replicate l.counter 32
