-- What the private contracts of the parser say: pieces of clauses, and what stands after them.
use Rattle.std.specs.Prelude.{◌≡◌, ◌≢◌, ℕ, List, Bool, true, false, Option, Some, None}
use Rattle.std.specs.declared.result.Result.{Result}
use Rattle.ps_base.specs.declared.line.Line.{Line}
use Rattle.ps_base.specs.declared.operator.Relation.{Relation}
use Rattle.ps_tree.specs.ps_symbols.declared.kind.Kind.{Kind}
use Rattle.ps_tree.specs.ps_symbols.declared.kind.Kind.TheVariants as kind
use Rattle.ps_tree.specs.ps_symbols.declared.kind.Level.TheVariants.{Sum}
use Rattle.ps_tree.specs.ps_symbols.declared.symbol.Symbol.{Symbol}
use Rattle.ps_tree.specs.declared.fault.ParseFault.{ParseFault}
use Rattle.ps_tree.specs.declared.rough.RoughItem.{RoughItem}
use Rattle.ps_tree.specs.Phrase.{Phrase, Phrases, none, more, MaybePhrase, absent, present, Arms, arm, item_of}
use Rattle.ps_tree.specs.Phrase as form
use Rattle.ps_tree.specs.Composing.{and_arm, and_then}
use Rattle.ps_reader.specs.declared.reader.Reader.{Reader}
use Rattle.ps_reader.specs.Grammar.{Made, an_item, Cases, Chain, Clause, Labels, Part, Rule, Give, Take, Go, Then, clause_of, give, name_at, row, skip, with_clause}
use Rattle.ps_reader.specs.inside.Parsing.{Does, is_end}

abbrev pub ReadsItem : Reader → ℕ → Rule → ℕ → Result RoughItem ParseFault → ℕ → Type 0
ReadsItem reader room rule from result to = Does reader room rule from result (λ made. Give (an_item (item_of made))) to

-- a symbol of the kind, then a clause, and what is asked for after them
abbrev pub behind : Kind → (Symbol → Made → Rule) → Rule
behind kind next = Take kind (λ symbol. Then Clause (next symbol))

-- a clause in round brackets, and what is asked for after them
abbrev pub in_brackets : (Made → Rule) → Rule
in_brackets next = skip kind.OpenRound (Then Clause (λ made. skip kind.CloseRound (next made)))

-- what stands after the sign of a comparison, or after `is` or `isnt`
abbrev pub behind_relation : Phrase → Relation → Line → Rule
behind_relation left op line = clause_of (Go (Chain Sum)) (λ right. give (form.Compare op left right) line)

abbrev pub behind_is : List ℕ → Phrase → Bool → Line → Rule
behind_is text left negated line = Take kind.Name (λ name. give (form.Is left (name_at text name) negated) line)

-- whether the mark after the name of a `let` makes a variable of it; none where it is neither of the two
abbrev pub makes_variable : Kind → Option Bool
makes_variable kind.Equals = Some false
makes_variable kind.Becomes = Some true
makes_variable _ = None

-- an arm of a `case` after those before it, and the further ones
abbrev pub an_arm : Line → Phrase → Arms → Rule
an_arm line e before = with_clause (λ label. Go (Labels line e before (more label none)))

-- what is left of it after its labels
abbrev pub behind_labels : Line → Phrase → Arms → Phrases → Rule
behind_labels line e before labels = skip kind.Colon (with_clause (λ a. skip kind.Semicolon (Go (Cases line e (and_arm before (arm labels a))))))

-- the part is a clause after a symbol of the kind, if one stands there, and then this is asked for
pub record IsOptional (text : List ℕ) (kind : Kind) (part : Part) (next : MaybePhrase → Rule) : Type 0 where
  pub symbol : is_end kind ≡ false
  pub there : row text part kind ≡ Some (skip kind (with_clause (λ e. next (present e))))
  pub other : (k : Kind) → k ≢ kind → row text part k ≡ Some (next absent)

-- the part is what goes on after some clauses: a comma and one more of them, or else this
pub record IsList (text : List ℕ) (part : Phrases → Part) (rest : Phrases → Rule) : Type 0 where
  pub comma : (before : Phrases) → row text (part before) kind.Comma ≡ Some (skip kind.Comma (with_clause (λ e. Go (part (and_then before e)))))
  pub other : (before : Phrases) (k : Kind) → k ≢ kind.Comma → row text (part before) k ≡ Some (rest before)
