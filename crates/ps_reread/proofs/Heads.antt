-- The first of the lexemes that stand somewhere.
use Rattle.std.proofs.Common.{◌≡◌, ℕ, ◌+◌, List, [], ◌∷◌, Some, slice_get, refl}
use Rattle.ps_parse.specs.ps_scan.Tokens.{slice_of}
use Rattle.ps_layout.specs.ps_symbols.declared.symbol.Symbol.{Symbol}
use Rattle.ps_layout.specs.ps_symbols.Kinds.{kind_of}
use Rattle.ps_parse.specs.ps_reader.Reading.{kind_at}
use Rattle.ps_layout.specs.Lexemes.{Lexeme}
use Rattle.ps_reread.proofs.Standing.{Stands, first_kind}

-- a lexeme at a place, and what stands after it
pub record Head (text : List ℕ) (symbols : List Symbol) (from : ℕ) (lexeme : Lexeme) (rest : List Lexeme) (to : ℕ) : Type 0 where
  pub symbol : Symbol
  pub here : slice_get symbols from ≡ Some symbol
  pub is : symbol.kind ≡ kind_of lexeme.what
  pub spelled : slice_of text symbol.token ≡ lexeme.spelling
  pub kind : kind_at symbols from ≡ kind_of lexeme.what
  pub more : Stands text symbols (from + 1) rest to

module _ {text : List ℕ} {symbols : List Symbol} where
  pub head : {from to : ℕ} {lexeme : Lexeme} {rest : List Lexeme} → Stands text symbols from (lexeme ∷ rest) to → Head text symbols from lexeme rest to
  head (Stands.one_more {lexeme = lexeme} {symbol = symbol} here is spelled more) = record { symbol = symbol; here = here; is = is; spelled = spelled; kind = first_kind (Stands.one_more {lexeme = lexeme} here is spelled more); more = more }

  pub ended : {from to : ℕ} → Stands text symbols from [] to → from ≡ to
  ended Stands.no_more = refl
