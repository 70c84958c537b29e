-- The symbol at a place.
use Rattle.std.proofs.Common.{ℕ, List, Some, slice_get, subst, ◌≡◌}
use Rattle.std.specs.List.{All}
use Rattle.std.proofs.lemmas.Option.{slice_get_within, get_or_from_slice_get}
use Rattle.std.proofs.lemmas.List.Elements.{All-get_or}
use Rattle.ps_tree.specs.ps_symbols.declared.symbol.Symbol.{Symbol}

-- what is so of each symbol is so of the one at a place
pub at_place : (P : Symbol → Type 0) (symbols : List Symbol) (place : ℕ) (symbol : Symbol) → All P symbols → slice_get symbols place ≡ Some symbol → P symbol
at_place P symbols place symbol all here =
    subst P (get_or_from_slice_get symbols place symbol symbol here) (All-get_or P symbols place symbol (slice_get_within symbols place symbol here) all)
