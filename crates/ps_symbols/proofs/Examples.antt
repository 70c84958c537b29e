-- The tables on the words and the marks, written out in their order, and the newline rule on examples.
use Rattle.std.proofs.Common.{◌≡◌, List, [], ◌∷◌, map, true, false, refl}
use Rattle.std.specs.List.{range_with_len}
use Rattle.ps_scan.specs.declared.token.Token.{Token}
use Rattle.ps_scan.specs.declared.token.TokenKind.{TokenKind}
use Rattle.ps_scan.specs.declared.token.TokenKind.TheVariants.{Name, Int, Word, Mark}
use Rattle.ps_scan.specs.Tokens.{token_at}
use Rattle.ps_symbols.specs.declared.kind.Kind.{Kind}
use Rattle.ps_symbols.specs.declared.kind.Kind.TheVariants as kind
use Rattle.ps_symbols.specs.Kinds.{kind_of}
use Rattle.ps_symbols.specs.Newline.{can_end, can_continue}
use Rattle.ps_symbols.specs.Symbols.{symbols, symbols_behind}

abbrev words : List TokenKind
words = map (λ place. Word place) (range_with_len 0 36)

-- ( ) [ ] { } , ; : :: := = ~ ~= < <= > >= + - ++ * -> @ ? |
abbrev marks : List TokenKind
marks = map (λ place. Mark place) (range_with_len 0 26)

-- abort to write
words_read : map kind_of words ≡
    kind.Abort ∷ kind.And ∷ kind.Begin ∷ kind.BoolType ∷ kind.By ∷ kind.Case ∷ kind.Default ∷ kind.Div ∷ kind.Do
    ∷ kind.Else ∷ kind.End ∷ kind.False ∷ kind.For ∷ kind.If ∷ kind.IntType ∷ kind.Is ∷ kind.Isnt ∷ kind.Let
    ∷ kind.Lwb ∷ kind.Nil ∷ kind.Of ∷ kind.Or ∷ kind.PntrType ∷ kind.Proc ∷ kind.Procedure ∷ kind.Rem ∷ kind.Repeat
    ∷ kind.StringType ∷ kind.Structure ∷ kind.Then ∷ kind.To ∷ kind.True ∷ kind.Upb ∷ kind.Vector ∷ kind.While ∷ kind.Write ∷ []
words_read = refl

marks_read : map kind_of marks ≡
    kind.OpenRound ∷ kind.CloseRound ∷ kind.OpenSquare ∷ kind.CloseSquare ∷ kind.OpenCurly ∷ kind.CloseCurly ∷ kind.Comma ∷ kind.Semicolon
    ∷ kind.Colon ∷ kind.DoubleColon ∷ kind.Becomes ∷ kind.Equals ∷ kind.Tilde ∷ kind.NotEquals ∷ kind.Less ∷ kind.LessEqual
    ∷ kind.Greater ∷ kind.GreaterEqual ∷ kind.Plus ∷ kind.Minus ∷ kind.Concatenate ∷ kind.Times ∷ kind.Arrow ∷ kind.At ∷ kind.Question ∷ kind.Bar ∷ []
marks_read = refl

-- abort, end, false, nil and true
words_that_end : map (λ what. can_end (kind_of what)) words ≡
    true ∷ false ∷ false ∷ false ∷ false ∷ false ∷ false ∷ false ∷ false
    ∷ false ∷ true ∷ true ∷ false ∷ false ∷ false ∷ false ∷ false ∷ false
    ∷ false ∷ true ∷ false ∷ false ∷ false ∷ false ∷ false ∷ false ∷ false
    ∷ false ∷ false ∷ false ∷ false ∷ true ∷ false ∷ false ∷ false ∷ false ∷ []
words_that_end = refl

-- the closing brackets
marks_that_end : map (λ what. can_end (kind_of what)) marks ≡
    false ∷ true ∷ false ∷ true ∷ false ∷ true ∷ false ∷ false
    ∷ false ∷ false ∷ false ∷ false ∷ false ∷ false ∷ false ∷ false
    ∷ false ∷ false ∷ false ∷ false ∷ false ∷ false ∷ false ∷ false ∷ false ∷ false ∷ []
marks_that_end = refl

-- and, by, div, do, else, end, is, isnt, of, or, rem, then and to
words_that_continue : map (λ what. can_continue (kind_of what)) words ≡
    false ∷ true ∷ false ∷ false ∷ true ∷ false ∷ false ∷ true ∷ true
    ∷ true ∷ true ∷ false ∷ false ∷ false ∷ false ∷ true ∷ true ∷ false
    ∷ false ∷ false ∷ true ∷ true ∷ false ∷ false ∷ false ∷ true ∷ false
    ∷ false ∷ false ∷ true ∷ true ∷ false ∷ false ∷ false ∷ false ∷ false ∷ []
words_that_continue = refl

-- all but ( { ~ and @
marks_that_continue : map (λ what. can_continue (kind_of what)) marks ≡
    false ∷ true ∷ true ∷ true ∷ false ∷ true ∷ true ∷ true
    ∷ true ∷ true ∷ true ∷ true ∷ false ∷ true ∷ true ∷ true
    ∷ true ∷ true ∷ true ∷ true ∷ true ∷ true ∷ true ∷ false ∷ true ∷ true ∷ []
marks_that_continue = refl

abbrev kinds_of : List Token → List Kind
kinds_of tokens = map (λ symbol. symbol.kind) (symbols tokens)

-- a bracket on a new line begins a clause, and a minus there goes on with one
bracket_begins : kinds_of (token_at Name 0 1 1 ∷ token_at (Mark 0) 2 2 1 ∷ []) ≡ kind.Name ∷ kind.Semicolon ∷ kind.OpenRound ∷ []
unfolding symbols_behind
bracket_begins = refl

minus_continues : kinds_of (token_at Name 0 1 1 ∷ token_at (Mark 19) 2 2 1 ∷ token_at Int 3 2 1 ∷ []) ≡ kind.Name ∷ kind.Minus ∷ kind.Int ∷ []
unfolding symbols_behind
minus_continues = refl
