-- What a text reads as, and where its first fault stands.
use Rattle.std.specs.Prelude.{◌≡◌, ◌≢◌, ℕ, ◌+◌, ◌<◌, ◌≤◌, List, ◌++◌, length, take, Some, slice_get}
use Rattle.std.specs.List.{All}
use Rattle.ps_base.specs.Limits.{most_nested}
use Rattle.ps_reader.specs.ps_scan.declared.token.Token.{Token}
use Rattle.ps_tree.specs.declared.fault.ParseFault.{ParseFault}
use Rattle.ps_tree.specs.declared.fault.ParseFault.TheVariants.{TooNested}
use Rattle.ps_tree.specs.ps_symbols.declared.kind.Kind.TheVariants.{EndOfText}
use Rattle.ps_tree.specs.ps_symbols.declared.symbol.Symbol.{Symbol}
use Rattle.ps_tree.specs.Phrase.{Phrase}
use Rattle.ps_reader.specs.Faults.{unexpected}
use Rattle.ps_reader.specs.Grammar.{a_clause, Program, Go}
use Rattle.ps_reader.specs.Reading.{Reads, Opens}
use Rattle.ps_tree.specs.ps_symbols.Symbols.{symbols}

-- the symbols are those of a program with this tree, with at most so many clauses and types inside one another: the
-- program is read from the first of them on, and all of them
abbrev pub IsProgram : List ℕ → ℕ → List Symbol → Phrase → Type 0
IsProgram text nesting all tree = Reads text all nesting (Go Program) 0 (a_clause tree) (length all)

-- the text has these tokens and this tree, with at most `most_nested` clauses and types inside one another
pub record ReadsAs (text : List ℕ) (tokens : List Token) (tree : Phrase) : Type 0 where
  pub program : IsProgram text most_nested (symbols tokens) tree

-- a symbol that a text can have: the end of the text is none
abbrev pub CanStand : Symbol → Type 0
CanStand symbol = symbol.kind ≢ EndOfText

-- the symbols and some further ones that a text can have make a program, however deep they stand inside one another
abbrev pub BeginsProgram : List ℕ → List Symbol → Type 0
BeginsProgram text front = (more : List Symbol) × ((stand : All CanStand more) × ((nesting : ℕ) × ((tree : Phrase) × IsProgram text nesting (front ++ more) tree)))

-- the symbol at this place opens a clause or type that is one too many of those inside one another, and no symbol before it does
pub record IsTooDeep (text : List ℕ) (all : List Symbol) (place : ℕ) : Type 0 where
  pub opens : Opens text all (most_nested + 1) (Go Program) 0 place
  pub first : (earlier : ℕ) → earlier < place → Opens text all (most_nested + 1) (Go Program) 0 earlier → ⊥

-- the symbols before this place begin a program, and those up to it begin none: nothing after it
-- matters. At the end of the text those before it are no program themselves. No earlier symbol is
-- too deep.
pub record IsUnexpected (text : List ℕ) (all : List Symbol) (place : ℕ) : Type 0 where
  pub within : place ≤ length all
  pub before : BeginsProgram text (take place all)
  pub here : place < length all → BeginsProgram text (take (place + 1) all) → ⊥
  pub at_end : place ≡ length all → (nesting : ℕ) (tree : Phrase) → IsProgram text nesting all tree → ⊥
  pub first : (earlier : ℕ) → earlier < place → Opens text all (most_nested + 1) (Go Program) 0 earlier → ⊥

-- each symbol up to this place is expected, and the one at it is too deep
pub record IsTooNested (text : List ℕ) (all : List Symbol) (place : ℕ) : Type 0 where
  pub too_deep : IsTooDeep text all place
  pub expected : BeginsProgram text (take (place + 1) all)

-- the text with these tokens has no tree because of this fault
pub data IsParseFault (text : List ℕ) (tokens : List Token) : ParseFault → Type 0 where
  unexpected_at : (place : ℕ) → IsUnexpected text (symbols tokens) place → IsParseFault text tokens (unexpected text (length tokens) (slice_get (symbols tokens) place))
  too_nested_at : (place : ℕ) (symbol : Symbol) → slice_get (symbols tokens) place ≡ Some symbol → IsTooNested text (symbols tokens) place → IsParseFault text tokens (TooNested symbol.token.line)
