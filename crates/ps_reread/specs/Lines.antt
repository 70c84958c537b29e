-- Where the newlines of a printed text may stand, so that no `;` is read at them.
use Rattle.std.specs.Prelude.{ℕ, ◌+◌, Bool, true, not, ◌&&◌, List, [], ◌∷◌}
use Rattle.ps_parse.specs.ps_scan.declared.token.Token.{Token}
use Rattle.ps_parse.specs.ps_scan.declared.token.TokenKind.{TokenKind}
use Rattle.ps_layout.specs.ps_symbols.declared.symbol.Symbol.{Symbol}
use Rattle.ps_layout.specs.ps_symbols.Kinds.{kind_of}
use Rattle.ps_layout.specs.ps_symbols.Newline.{can_end, can_continue}
use Rattle.ps_layout.specs.ps_symbols.Symbols.{symbol}
use Rattle.ps_layout.specs.Lexemes.{Gap, nothing, blank, newline, Lexeme}

-- no `;` is read between these two: no newline stands between them, or the first can't end a clause,
-- or the second can continue one
abbrev pub goes_on_over : Gap → TokenKind → TokenKind → Bool
goes_on_over nothing first second = true
goes_on_over blank first second = true
goes_on_over (newline indent) first second = not (can_end (kind_of first) && not (can_continue (kind_of second)))

abbrev pub goes_on : Lexeme → Lexeme → Bool
goes_on first second = goes_on_over second.gap first.what second.what

-- each token as it is read, the first with this number, and nothing between them
abbrev pub one_for_one : ℕ → List Token → List Symbol
one_for_one number [] = []
one_for_one number (token ∷ tokens) = symbol number token ∷ one_for_one (number + 1) tokens
