-- The fault of a symbol that can't stand where it stands.
use Rattle.std.specs.Prelude.{ℕ, ◌-◌, List, length, Option, Some, None}
use Rattle.ps_base.specs.declared.line.Line.{Line}
use Rattle.ps_scan.specs.Tokens.{line_of, line_number}
use Rattle.ps_tree.specs.ps_symbols.declared.symbol.Symbol.{Symbol}
use Rattle.ps_tree.specs.declared.fault.ParseFault.{ParseFault}
use Rattle.ps_tree.specs.declared.fault.ParseFault.TheVariants.{Unexpected}

-- the line of the end of a text: that of its last byte, where a newline belongs to the line that it
-- ends, and 1 for the empty text
abbrev pub end_line : List ℕ → Line
end_line text = line_of (line_number text (length text - 1))

-- the fault of a symbol that is unexpected, or of the end of a text of so many tokens
abbrev pub unexpected : List ℕ → ℕ → Option Symbol → ParseFault
unexpected text count (Some symbol) = Unexpected symbol.token.line symbol.number
unexpected text count None = Unexpected (end_line text) count
