-- The reading of a program ends at the end of its symbols, since none of a text's symbols is the end of the text.
use Rattle.std.proofs.Common.{◌≡◌, ◌≢◌, ℕ, zero, suc, ◌+◌, ◌≤◌, List, [], ◌∷◌, Bool, true, false, cond, Option, Some, None, length, slice_get, unwrap_or, refl, sym, ap, ◌∙◌, arith}
use Rattle.std.specs.List.{All}
use Rattle.std.proofs.lemmas.List.Elements.{All-nil, All-cons, All-head, All-tail, All-append}
use Rattle.ps_reader.specs.ps_scan.declared.token.Token.{Token}
use Rattle.ps_reader.specs.ps_scan.declared.token.TokenKind.{TokenKind}
use Rattle.ps_reader.specs.ps_scan.declared.token.TokenKind.TheVariants as scanned
use Rattle.ps_tree.specs.ps_symbols.declared.kind.Kind.{Kind}
use Rattle.ps_tree.specs.ps_symbols.declared.kind.Kind.TheVariants as kind
use Rattle.ps_tree.specs.ps_symbols.declared.kind.TheConstants.{WORDS, MARKS}
use Rattle.ps_tree.specs.ps_symbols.declared.symbol.Symbol.{Symbol}
use Rattle.ps_tree.specs.ps_symbols.Kinds.{kind_of}
use Rattle.ps_tree.specs.ps_symbols.Symbols.{breaks, semicolon_behind, symbol, between, symbols_behind}
use Rattle.ps_tree.specs.Phrase.{Phrase}
use Rattle.ps_reader.specs.Grammar.{Made, a_clause, the_clause, Rule, Give, Take, Go, Then, Program, Ending, Ended, ending, ended}
use Rattle.ps_parse.specs.Program.{CanStand}
use Rattle.ps_reader.specs.Reading.{kind_at, Reads, gives, takes, goes, joins}
use Rattle.ps_parse.proofs.Unique.{some_same, reads_as}
use Rattle.ps_parse.proofs.Prefixes.{within}

-- a kind that a symbol can have, and kinds that symbols can have
abbrev pub real : Kind → Bool
real kind.EndOfText = false
real _ = true

abbrev pub all_real : List Kind → Bool
all_real [] = true
all_real (first ∷ kinds) = cond (real first) (all_real kinds) false

pub both_true : (one two : Bool) → one ≡ true → two ≡ true → cond one two false ≡ true
both_true true two is was = was
both_true false two is was = absurd (cc)

pub each_true : (one two : Bool) → cond one two false ≡ true → (one ≡ true) × (two ≡ true)
each_true true two is = (refl, is)
each_true false two is = absurd (cc)

pub real_stands : (k : Kind) → real k ≡ true → k ≢ kind.EndOfText
real_stands k is end = let no = sym is ∙ ap real end in cc

real_in : (kinds : List Kind) (place : ℕ) → all_real kinds ≡ true → real (unwrap_or (slice_get kinds place) kind.Stray) ≡ true
real_in [] place all = refl
real_in (first ∷ kinds) zero all = (each_true (real first) (all_real kinds) all).0
real_in (first ∷ kinds) (suc place) all = real_in kinds place (each_true (real first) (all_real kinds) all).1

token_stands : (what : TokenKind) → kind_of what ≢ kind.EndOfText
token_stands scanned.Name = real_stands kind.Name refl
token_stands scanned.Int = real_stands kind.Int refl
token_stands scanned.Text = real_stands kind.Text refl
token_stands (scanned.Word place) = real_stands (kind_of (scanned.Word place)) (real_in WORDS place refl)
token_stands (scanned.Mark place) = real_stands (kind_of (scanned.Mark place)) (real_in MARKS place refl)

between_stand : (last : Option Token) (number : ℕ) (token : Token) → All CanStand (between last number token)
between_stand None number token = All-nil CanStand
between_stand (Some last) number token = elim (breaks last token) as (λ here. All CanStand (cond here (symbol number (semicolon_behind last) ∷ []) [])) [ true ↦ All-cons CanStand (symbol number (semicolon_behind last)) [] (token_stands (semicolon_behind last).what) (All-nil CanStand) | false ↦ All-nil CanStand ]

-- each symbol of a text is one that a text can have
pub symbols_stand : (last : Option Token) (number : ℕ) (tokens : List Token) → All CanStand (symbols_behind last number tokens)
unfolding symbols_behind
symbols_stand last number [] = All-nil CanStand
symbols_stand last number (token ∷ tokens) =
    All-append CanStand (between last number token) (symbol number token ∷ symbols_behind (Some token) (number + 1) tokens) (between_stand last number token)
    (All-cons CanStand (symbol number token) (symbols_behind (Some token) (number + 1) tokens) (token_stands token.what) (symbols_stand (Some token) (number + 1) tokens))

past_all : (symbols : List Symbol) (place : ℕ) → All CanStand symbols → kind_at symbols place ≡ kind.EndOfText → length symbols ≤ place
past_all [] place all is = omega arith
past_all (first ∷ symbols) zero all is = absurd (All-head CanStand first symbols all is)
past_all (first ∷ symbols) (suc place) all is = let h = past_all symbols place (All-tail CanStand first symbols all) is in omega (arith, h)

ended_there : (all : Phrase) (found : Kind) {rule : Rule} → ended all found ≡ Some rule → (rule ≡ Give (a_clause all)) × (found ≡ kind.EndOfText)
ended_there all kind.EndOfText is = (some_same is refl, refl)
ended_there all _ is = absurd (cc)

same_number : {one other : ℕ} → one ≤ other → other ≤ one → one ≡ other
same_number less more = omega (arith, less, more)

module _ {text : List ℕ} {symbols : List Symbol} where
  given_end : {nesting from to : ℕ} {one made : Made} → Reads text symbols nesting (Give one) from made to → to ≡ from
  given_end gives = refl

  ended_end : {nesting from to : ℕ} (all : Phrase) {made : Made} → Reads text symbols nesting (Go (Ended all)) from made to → kind_at symbols to ≡ kind.EndOfText
  ended_end all (goes {from = from} is more) =
      let e = ended_there all (kind_at symbols from) is in
      ap (λ (p : ℕ). kind_at symbols p) (given_end (reads_as e.0 more)) ∙ e.1

  question_end : {nesting from to : ℕ} (all : Phrase) {made : Made} → Reads text symbols nesting (Take kind.Question (λ mark. Go (Ended all))) from made to → kind_at symbols to ≡ kind.EndOfText
  question_end all (takes found is more) = ended_end all more

  ending_end : {nesting from to : ℕ} (all : Phrase) (found : Kind) {rule : Rule} {made : Made} → ending all found ≡ Some rule → kind_at symbols from ≡ found → Reads text symbols nesting rule from made to → kind_at symbols to ≡ kind.EndOfText
  ending_end all kind.Question is there more = question_end all (reads_as (some_same is refl) more)
  ending_end all kind.EndOfText is there more = ap (λ (p : ℕ). kind_at symbols p) (given_end {one = a_clause all} (reads_as (some_same is refl) more)) ∙ there
  ending_end all _ is there more = absurd (cc)

  both_end : {nesting from to : ℕ} {first : Rule} {made : Made} → Reads text symbols nesting (Then first (λ all. Go (Ending (the_clause all)))) from made to → kind_at symbols to ≡ kind.EndOfText
  both_end (joins {one = one} first (goes {from = from} is more)) = ending_end (the_clause one) (kind_at symbols from) is refl more

  program_end : {nesting from to : ℕ} {made : Made} → Reads text symbols nesting (Go Program) from made to → kind_at symbols to ≡ kind.EndOfText
  program_end (goes is more) = both_end (reads_as (some_same is refl) more)

  -- a program is read to the end of its symbols
  pub ends_there : {nesting to : ℕ} {made : Made} → All CanStand symbols → Reads text symbols nesting (Go Program) 0 made to → to ≡ length symbols
  ends_there all read = same_number (within read (omega arith)) (past_all symbols _ all (program_end read))
