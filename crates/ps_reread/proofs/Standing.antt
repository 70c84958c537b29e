-- Lexemes as they stand among the symbols of a text.
use Rattle.std.proofs.Common.{◌≡◌, ℕ, ◌+◌, List, [], ◌∷◌, ◌++◌, Some, slice_get, ap, ◌∙◌}
use Rattle.ps_parse.specs.ps_scan.Tokens.{slice_of}
use Rattle.ps_layout.specs.ps_symbols.declared.symbol.Symbol.{Symbol}
use Rattle.ps_layout.specs.ps_symbols.Kinds.{kind_of}
use Rattle.ps_parse.specs.ps_reader.Reading.{kind_at, kind_of_next}
use Rattle.ps_layout.specs.Lexemes.{Lexeme}

-- the symbols from one place to the other are the lexemes, in kind and in spelling
pub data Stands (text : List ℕ) (symbols : List Symbol) : ℕ → List Lexeme → ℕ → Type 0 where
  no_more : {place : ℕ} → Stands text symbols place [] place
  one_more : {from to : ℕ} {lexeme : Lexeme} {rest : List Lexeme} {symbol : Symbol} → slice_get symbols from ≡ Some symbol → symbol.kind ≡ kind_of lexeme.what → slice_of text symbol.token ≡ lexeme.spelling → Stands text symbols (from + 1) rest to → Stands text symbols from (lexeme ∷ rest) to

module _ {text : List ℕ} {symbols : List Symbol} where
  pub cut : (one two : List Lexeme) {from to : ℕ} → Stands text symbols from (one ++ two) to → (middle : ℕ) × Stands text symbols from one middle × Stands text symbols middle two to
  cut [] two {from = from} all = (from, Stands.no_more, all)
  cut (first ∷ one) two (Stands.one_more here is spelled more) = let c = cut one two more in (c.0, Stands.one_more here is spelled c.1, c.2)

  -- the kind of the first
  pub first_kind : {lexeme : Lexeme} {rest : List Lexeme} {from to : ℕ} → Stands text symbols from (lexeme ∷ rest) to → kind_at symbols from ≡ kind_of lexeme.what
  first_kind (Stands.one_more here is spelled more) = ap kind_of_next here ∙ is
