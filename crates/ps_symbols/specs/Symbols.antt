-- The newline rule: the tokens of a text as the grammar reads them.
use Rattle.std.specs.Prelude.{ℕ, ◌+◌, Bool, ◌&&◌, not, nat_lt, List, [], ◌∷◌, ◌++◌, Option, Some, None, if◌then◌else◌}
use Rattle.ps_scan.specs.declared.token.Token.{Token}
use Rattle.ps_scan.specs.declared.token.TokenKind.TheVariants.{Mark}
use Rattle.ps_scan.specs.declared.mark.TheConstants.{SEMICOLON}
use Rattle.ps_symbols.specs.declared.symbol.Symbol.{Symbol}
use Rattle.ps_symbols.specs.Kinds.{kind_of}
use Rattle.ps_symbols.specs.Newline.{can_end, can_continue}

-- a `;` is read between two neighbouring tokens: a newline stands between them, the first can end
-- a clause, and the second can't continue one
abbrev pub breaks : Token → Token → Bool
breaks first second = nat_lt first.line.0 second.line.0 && can_end (kind_of first.what) && not (can_continue (kind_of second.what))

-- the `;` after a token, on its line
abbrev pub semicolon_behind : Token → Token
semicolon_behind token = record { what = Mark SEMICOLON; line = token.line; from = token.to; to = token.to }

-- a token before which so many tokens stand
abbrev pub symbol : ℕ → Token → Symbol
symbol number token = record { kind = kind_of token.what; number = number; token = token }

-- what is read between the token before, if there is one, and the token of this number
abbrev pub between : Option Token → ℕ → Token → List Symbol
between None number token = []
between (Some last) number token = if breaks last token then symbol number (semicolon_behind last) ∷ [] else []

-- these tokens as they are read, after the token before them, where the first has this number
unfoldable pub symbols_behind : Option Token → ℕ → List Token → List Symbol
symbols_behind last number [] = []
symbols_behind last number (token ∷ tokens) = between last number token ++ symbol number token ∷ symbols_behind (Some token) (number + 1) tokens

-- the tokens of a whole text as they are read
abbrev pub symbols : List Token → List Symbol
symbols tokens = symbols_behind None 0 tokens
