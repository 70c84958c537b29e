-- The text so far, and what is still to be printed, are what is printed in all.
use Rattle.std.proofs.Common.{◌≡◌, ◌++◌}
use Rattle.ps_type_pieces.specs.ps_layout.Lexemes.{text_of}
use Rattle.ps_type_pieces.specs.ps_layout.Waiting.{waiting, lexemes_of, weight_of}
use Rattle.ps_print.proofs.print.write_all.Given as goal

abbrev pub invariant-loop-piece : goal.invariant-loop-piece
invariant-loop-piece l = l.text.items ++ text_of (lexemes_of (waiting l.pending)) ≡ l.initial.text.items ++ text_of (lexemes_of (waiting l.initial.pending))

abbrev pub decreases-loop-piece : goal.decreases-loop-piece
decreases-loop-piece l = weight_of (waiting l.pending)
