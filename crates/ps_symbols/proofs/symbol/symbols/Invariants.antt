use Rattle.std.proofs.Common.{◌≡◌, ◌++◌, ℕ, List, drop, Option, None}
use Rattle.ps_scan.specs.declared.token.Token.{Token}
use Rattle.ps_symbols.specs.declared.symbol.Symbol.{Symbol}
use Rattle.ps_symbols.specs.Symbols.{symbols_behind}
use Rattle.ps_symbols.proofs.symbol.symbols.Given as goal

-- the number is the index, and what has been read goes on to all that is to be read
pub record Goes (read : List Symbol) (index number : ℕ) (last : Option Token) (tokens : List Token) : Type 0 where
  pub counted : number ≡ index
  pub read_so_far : symbols_behind None 0 tokens ≡ read ++ symbols_behind last number (drop index tokens)

abbrev pub invariant-loop-token : goal.invariant-loop-token
invariant-loop-token l = Goes l.symbols.items l.token-index l.number l.last l.tokens
