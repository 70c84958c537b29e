-- What the contracts of a reader say: how a text is read by the grammar, a piece at a time.
use Rattle.std.specs.Prelude.{◌≡◌, ◌≢◌, ℕ, ◌+◌, ◌≤◌, List, Bool, true, false, Option, Some, None, length, slice_get, MatchOption, MatchResult}
use Rattle.std.specs.List.{All}
use Rattle.std.specs.declared.result.Result.{Result}
use Rattle.ps_base.specs.Limits.{most_text_bytes}
use Rattle.ps_base.specs.TyView.{TyView, ty_view}
use Rattle.ps_base.specs.declared.line.Line.{Line}
use Rattle.ps_base.specs.declared.ty.Ty.{Ty}
use Rattle.ps_tree.specs.ps_symbols.declared.kind.Kind.{Kind}
use Rattle.ps_tree.specs.ps_symbols.declared.kind.Kind.TheVariants as kind
use Rattle.ps_tree.specs.ps_symbols.declared.symbol.Symbol.{Symbol}
use Rattle.ps_tree.specs.ps_symbols.inside.Soundness.{IsSound}
use Rattle.ps_tree.specs.declared.fault.ParseFault.{ParseFault}
use Rattle.ps_tree.specs.declared.rough.Named.{Named}
use Rattle.ps_tree.specs.declared.rough.Rough.{Rough}
use Rattle.ps_tree.specs.Phrase.{NameAt, GroupAt, phrase_of, named}
use Rattle.ps_reader.specs.declared.reader.Reader.{Reader}
use Rattle.ps_reader.specs.Grammar.{a_clause, a_type, all_groups, the_groups, Groups, Parameters, Rule, Give, Take, Go, Then, line_at, name_at, skip, type_of, with_type}
use Rattle.ps_reader.specs.Grammar as grammar
use Rattle.ps_reader.specs.Reading.{kind_at}
use Rattle.ps_reader.specs.Faults.{unexpected}
use Rattle.ps_reader.specs.inside.Stopping.{Continues, HaltsWith, IsNotAt}

pub record AreSound (reader : Reader) : Type 0 where
  pub size : length reader.text.now ≤ most_text_bytes
  pub symbols : All (IsSound reader.text.now) reader.symbols.now

-- the reading goes on as another, or halts with the fault
abbrev pub GoesOn : Reader → ℕ → Rule → ℕ → Rule → ℕ → Type 0
GoesOn reader room rule from rest at = Continues reader.text.now reader.tokens reader.symbols.now room rule from rest at

abbrev pub Halts : Reader → ℕ → Rule → ℕ → ParseFault → Type 0
Halts reader room rule from fault = HaltsWith reader.text.now reader.tokens reader.symbols.now room rule from fault

-- what a method did that reads the beginning of a rule from one place to the other: what is left of the rule stands there, or its reading halts
abbrev pub Does : {A : Type 0} → Reader → ℕ → Rule → ℕ → Result A ParseFault → (A → Rule) → ℕ → Type 0
Does reader room rule from result rest to = MatchResult result (λ made. GoesOn reader room rule from (rest made) to) (λ fault. Halts reader room rule from fault)

-- what a method did that reads a whole rule: nothing is left of it, since this is there
abbrev pub ReadsClause : Reader → ℕ → Rule → ℕ → Result Rough ParseFault → ℕ → Type 0
ReadsClause reader room rule from result to = Does reader room rule from result (λ made. Give (a_clause (phrase_of made))) to

abbrev pub ReadsType : Reader → ℕ → Rule → ℕ → Result Ty ParseFault → ℕ → Type 0
ReadsType reader room rule from result to = Does reader room rule from result (λ made. Give (a_type (ty_view made))) to

-- a symbol of the kind stands at the first place, and the second is the one after it
pub record Taken (reader : Reader) (kind : Kind) (from : ℕ) (symbol : Symbol) (to : ℕ) : Type 0 where
  pub here : slice_get reader.symbols.now from ≡ Some symbol
  pub is : symbol.kind ≡ kind
  pub sound : IsSound reader.text.now symbol
  pub at : to ≡ from + 1

-- none stands there, and that is unexpected
pub record IsMissing (reader : Reader) (kind : Kind) (from : ℕ) (fault : ParseFault) : Type 0 where
  pub other : IsNotAt reader.symbols.now from kind
  pub is : fault ≡ unexpected reader.text.now reader.tokens (slice_get reader.symbols.now from)

abbrev pub Takes : Reader → Kind → ℕ → Result Symbol ParseFault → ℕ → Type 0
Takes reader kind from result to = MatchResult result (λ symbol. Taken reader kind from symbol to) (λ fault. IsMissing reader kind from fault)

-- what is left of the groups after one of them and after what separates it from the next one, if there is a next one
abbrev pub next_groups : List GroupAt → Bool → Rule
next_groups before true = Go (Groups before)
next_groups before false = Give (all_groups before)

-- the kind of the end of a text
abbrev pub is_end : Kind → Bool
is_end kind.EndOfText = true
is_end _ = false

-- nothing was taken, since no symbol of the kind stands there
pub record IsOther (reader : Reader) (kind : Kind) (from to : ℕ) : Type 0 where
  pub other : is_end kind ≡ false → kind_at reader.symbols.now from ≢ kind
  pub stays : to ≡ from

abbrev pub Accepts : Reader → Kind → ℕ → Option Symbol → ℕ → Type 0
Accepts reader kind from result to = MatchOption result (IsOther reader kind from to) (λ symbol. Taken reader kind from symbol to)

-- a symbol was taken that stands for something, by what its kind stands for
pub record Stands {A : Type 0} (reader : Reader) (meaning : Kind → Option A) (from : ℕ) (found : A × Symbol) (to : ℕ) : Type 0 where
  pub taken : Taken reader (found.1).kind from found.1 to
  pub means : meaning (found.1).kind ≡ Some found.0

-- nothing was taken, since no symbol stands there that stands for something
pub record StandsForNone {A : Type 0} (reader : Reader) (meaning : Kind → Option A) (from to : ℕ) : Type 0 where
  pub none : meaning (kind_at reader.symbols.now from) ≡ None
  pub stays : to ≡ from

abbrev pub Finds : {A : Type 0} → Reader → (Kind → Option A) → ℕ → Option (A × Symbol) → ℕ → Type 0
Finds reader meaning from result to = MatchOption result (StandsForNone reader meaning from to) (λ found. Stands reader meaning from found to)

-- a name stands at the first place, and the second is the one after it
pub record NameTaken (reader : Reader) (from : ℕ) (name : NameAt) (to : ℕ) : Type 0 where
  pub symbol : Symbol
  pub taken : Taken reader kind.Name from symbol to
  pub spells : name ≡ name_at reader.text.now symbol

abbrev pub TakesName : Reader → ℕ → Result Named ParseFault → ℕ → Type 0
TakesName reader from result to = MatchResult result (λ made. NameTaken reader from (named made) to) (λ fault. (room : ℕ) (next : Symbol → Rule) → Halts reader room (Take kind.Name next) from fault)

-- a word and a name after it, and what is asked for after them
abbrev pub word_and_name : List ℕ → Kind → (Line → NameAt → Rule) → Rule
word_and_name text word next = Take word (λ symbol. Take kind.Name (λ name. next (line_at symbol) (name_at text name)))

-- what stands between the name of a procedure and its body, or between the word and its body, but for the last `;`
abbrev pub signature : (List GroupAt → TyView → Rule) → Rule
signature next = skip kind.OpenRound (Then (Go Parameters) (λ params. type_of (Go grammar.Result) (λ gives. skip kind.CloseRound (next (the_groups params) gives))))

-- the type of the elements of a vector, after `of`
abbrev pub element_type : (TyView → Rule) → Rule
element_type next = skip kind.Of (with_type next)
