-- How a text is read by the grammar, and how deep its clauses and types stand inside one another.
use Rattle.std.specs.Prelude.{◌≡◌, ℕ, suc, ◌+◌, ◌<◌, List, length, Option, Some, None, slice_get}
use Rattle.ps_tree.specs.ps_symbols.declared.kind.Kind.{Kind}
use Rattle.ps_tree.specs.ps_symbols.declared.kind.Kind.TheVariants.{EndOfText}
use Rattle.ps_tree.specs.ps_symbols.declared.symbol.Symbol.{Symbol}
use Rattle.ps_reader.specs.Grammar.{Made, Part, Nested, Rule, Give, Take, Go, Open, Then, inside, row}

abbrev pub kind_of_next : Option Symbol → Kind
kind_of_next (Some symbol) = symbol.kind
kind_of_next None = EndOfText

-- the kind of the symbol at this place; after the last there is the end of the text
abbrev pub kind_at : List Symbol → ℕ → Kind
kind_at symbols place = kind_of_next (slice_get symbols place)

-- with at most so many clauses and types inside one another, the rule is read from this place on as
-- this, and its reading ends before that place
pub data Reads (text : List ℕ) (symbols : List Symbol) : ℕ → Rule → ℕ → Made → ℕ → Type 0 where
  gives : {nesting from : ℕ} {made : Made} → Reads text symbols nesting (Give made) from made from
  takes : {nesting from to : ℕ} {kind : Kind} {next : Symbol → Rule} {symbol : Symbol} {made : Made} → slice_get symbols from ≡ Some symbol → symbol.kind ≡ kind → Reads text symbols nesting (next symbol) (from + 1) made to → Reads text symbols nesting (Take kind next) from made to
  goes : {nesting from to : ℕ} {part : Part} {rule : Rule} {made : Made} → row text part (kind_at symbols from) ≡ Some rule → Reads text symbols nesting rule from made to → Reads text symbols nesting (Go part) from made to
  opens : {nesting from to : ℕ} {nested : Nested} {rule : Rule} {made : Made} → inside text nested (kind_at symbols from) ≡ Some rule → Reads text symbols nesting rule from made to → Reads text symbols (suc nesting) (Open nested) from made to
  joins : {nesting from middle to : ℕ} {first : Rule} {next : Made → Rule} {one made : Made} → Reads text symbols nesting first from one middle → Reads text symbols nesting (next one) middle made to → Reads text symbols nesting (Then first next) from made to

-- where the rule is read from this place on, the symbol at that place opens a clause or a type that
-- is the n-th of those inside one another
pub data Opens (text : List ℕ) (symbols : List Symbol) : ℕ → Rule → ℕ → ℕ → Type 0 where
  here : {place : ℕ} {nested : Nested} → place < length symbols → Opens text symbols 1 (Open nested) place place
  behind_token : {n from place : ℕ} {kind : Kind} {next : Symbol → Rule} {symbol : Symbol} → slice_get symbols from ≡ Some symbol → symbol.kind ≡ kind → Opens text symbols n (next symbol) (from + 1) place → Opens text symbols n (Take kind next) from place
  in_part : {n from place : ℕ} {part : Part} {rule : Rule} → row text part (kind_at symbols from) ≡ Some rule → Opens text symbols n rule from place → Opens text symbols n (Go part) from place
  in_nested : {n from place : ℕ} {nested : Nested} {rule : Rule} → inside text nested (kind_at symbols from) ≡ Some rule → Opens text symbols n rule from place → Opens text symbols (suc n) (Open nested) from place
  in_first : {n from place : ℕ} {first : Rule} {next : Made → Rule} → Opens text symbols n first from place → Opens text symbols n (Then first next) from place
  in_next : {n nesting from middle place : ℕ} {first : Rule} {next : Made → Rule} {one : Made} → Reads text symbols nesting first from one middle → Opens text symbols n (next one) middle place → Opens text symbols n (Then first next) from place
