-- Which symbols are tokens of the text.
use Rattle.std.specs.Prelude.{◌≡◌, ℕ, List}
use Rattle.ps_scan.specs.Tokens.{IsToken}
use Rattle.ps_scan.specs.declared.token.TokenKind.TheVariants as scanned
use Rattle.ps_symbols.specs.declared.kind.Kind.TheVariants as kind
use Rattle.ps_symbols.specs.declared.symbol.Symbol.{Symbol}

-- a name, an int and a string among the symbols is a token of the text
pub record IsSound (text : List ℕ) (symbol : Symbol) : Type 0 where
  pub name : symbol.kind ≡ kind.Name → IsToken text symbol.token
  pub int : symbol.kind ≡ kind.Int → IsToken text symbol.token × (symbol.token.what ≡ scanned.Int)
  pub string : symbol.kind ≡ kind.Text → IsToken text symbol.token × (symbol.token.what ≡ scanned.Text)
