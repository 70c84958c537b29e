-- A text is read in one way.
use Rattle.std.proofs.Common.{◌≡◌, ℕ, List, Option, Some, refl, sym, subst, ap}
use Rattle.ps_reader.specs.ps_scan.declared.token.Token.{Token}
use Rattle.ps_tree.specs.ps_symbols.declared.symbol.Symbol.{Symbol}
use Rattle.ps_tree.specs.Phrase.{Phrase}
use Rattle.ps_reader.specs.Grammar.{Made, the_clause, Rule}
use Rattle.ps_reader.specs.Reading.{Reads, gives, takes, goes, opens, joins}
use Rattle.ps_parse.specs.Program.{IsProgram, ReadsAs}
use Rattle.ps_tree.specs.ps_symbols.Symbols.{symbols as read_as}

pub some_same : {A : Type 0} {o : Option A} {a b : A} → o ≡ Some a → o ≡ Some b → a ≡ b
some_same is was = cc

module _ {text : List ℕ} {symbols : List Symbol} where
  pub reads_as : {nesting from to : ℕ} {rule other : Rule} {made : Made} → rule ≡ other → Reads text symbols nesting rule from made to → Reads text symbols nesting other from made to
  reads_as {nesting} {from} {to} {rule} {other} {made} same = subst (λ (r : Rule). Reads text symbols nesting r from made to) same

  pub reads_from : {nesting from other to : ℕ} {rule : Rule} {made : Made} → from ≡ other → Reads text symbols nesting rule from made to → Reads text symbols nesting rule other made to
  reads_from {nesting} {from} {other} {to} {rule} {made} same = subst (λ (p : ℕ). Reads text symbols nesting rule p made to) same

  -- two readings of a rule from one place give one made and end at one place
  pub unique : {nesting : ℕ} {rule : Rule} {from : ℕ} {made : Made} {to : ℕ} → Reads text symbols nesting rule from made to → {other : ℕ} {made' : Made} {to' : ℕ} → Reads text symbols other rule from made' to' → (made ≡ made') × (to ≡ to')
  unique gives gives = (refl, refl)
  unique (takes {next = next} here is more) (takes here' is' more') = unique more (reads_as (ap next (some_same here' here)) more')
  unique (goes is more) (goes is' more') = unique more (reads_as (some_same is' is) more')
  unique (opens is more) (opens is' more') = unique more (reads_as (some_same is' is) more')
  unique (joins {next = next} first more) (joins first' more') =
      let same = unique first first' in
      unique more (reads_as (ap next (sym same.0)) (reads_from (sym same.1) more'))

-- however deep its clauses and types may stand inside one another
pub one_tree_of_all : (text : List ℕ) (symbols : List Symbol) (nesting larger : ℕ) (tree other : Phrase) → IsProgram text nesting symbols tree → IsProgram text larger symbols other → tree ≡ other
one_tree_of_all text symbols nesting larger tree other reads reads' = ap the_clause (unique reads reads').0

pub one_tree : (text : List ℕ) (tokens : List Token) (tree other : Phrase) → ReadsAs text tokens tree → ReadsAs text tokens other → tree ≡ other
one_tree text tokens tree other reads reads' = one_tree_of_all text (read_as tokens) 100 100 tree other reads.program reads'.program
