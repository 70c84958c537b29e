-- How a clause begins, and what doesn't begin one.
use Rattle.std.proofs.Common.{◌≡◌, ◌≢◌, ℕ, suc, ◌+◌, List, [], ◌∷◌, Bool, true, false, Option, Some, None, is_some, option_map, nat_lt, refl, ap}
use Rattle.ps_layout.specs.ps_base.declared.line.Line.{Line}
use Rattle.ps_layout.specs.ps_symbols.declared.kind.Kind.{Kind}
use Rattle.ps_layout.specs.ps_symbols.declared.kind.Kind.TheVariants as kind
use Rattle.ps_layout.specs.ps_symbols.declared.kind.Level.TheVariants.{Disjunction}
use Rattle.ps_layout.specs.ps_symbols.declared.kind.Opening.{Opening}
use Rattle.ps_layout.specs.ps_symbols.declared.symbol.Symbol.{Symbol}
use Rattle.ps_layout.specs.ps_symbols.Kinds.{opening_of, begins_item}
use Rattle.ps_layout.specs.ps_tree.Phrase.{NameAt, Phrase, at, Form, Phrases, none, more, absent, Arms}
use Rattle.ps_layout.specs.ps_tree.Phrase as form
use Rattle.ps_parse.specs.ps_reader.Grammar.{Made, a_clause, Rule, Go, Clause, a_clause_inside, Chain, Primary, SecondArgument, Labels, inside, row, opened, expression, arguments, cases, one_item, between, with_clause, give}
use Rattle.ps_parse.specs.ps_reader.Reading.{kind_at, Reads, gives, takes, goes, opens, joins}
use Rattle.ps_layout.specs.Lexemes.{Gap, Lexeme}
use Rattle.ps_layout.specs.Layout.{Tightness, number_of, Behind, before_do, in_brackets, close_round, loosest, disjunction, primary}
use Rattle.ps_layout.specs.Layout as layout
use Rattle.ps_reread.specs.Bare.{bare}
use Rattle.ps_reread.proofs.Standing.{Stands, cut}
use Rattle.ps_reread.proofs.Heads.{head, ended}
use Rattle.ps_reread.proofs.Climb.{Rereads, Leads, Above, expression_opens, starts_disjunction, give_back, lead_at, close_disjunction}
use Rattle.ps_reread.proofs.Climb as climb
use Rattle.ps_reread.proofs.Fronts.{InFront, of_do, of_comma, of_colon, of_other, closes, no_operator, no_assignment, all_above}
use Rattle.ps_reread.proofs.TypesRead.{gives_at}

-- a clause that begins with this kind is read by this rule, as one that is this but for lines
pub record Begins (text : List ℕ) (symbols : List Symbol) (room : ℕ) (from : ℕ) (p : Phrase) (to : ℕ) : Type 0 where
  pub rule : Rule
  pub begins : inside text a_clause_inside (kind_at symbols from) ≡ Some rule
  pub again : Phrase
  pub read : Reads text symbols room rule from (a_clause again) to
  pub same : bare again ≡ bare p

-- a form that binds so tight is read before what is above it, and a clause before what
-- stands after it
abbrev pub By : List ℕ → List Symbol → ℕ → Behind → ℕ → Phrase → ℕ → Tightness → Type 0
By text symbols room behind from p to loosest = InFront behind (kind_at symbols to) → Begins text symbols room from p to
By text symbols room behind from p to t = Above t (kind_at symbols to) → Leads text symbols room t from p to

above_number : {t : Tightness} {k : Kind} → Above t k → nat_lt 0 (number_of t) ≡ true
above_number climb.above_primary = refl
above_number climb.above_application = refl
above_number (climb.above_signed closed) = refl
above_number (climb.above_product above) = refl
above_number (climb.above_sum closed above) = refl
above_number (climb.above_comparison closed neither above) = refl
above_number (climb.above_negation above) = refl
above_number (climb.above_conjunction above) = refl
above_number (climb.above_disjunction closed above) = refl

primary_tightest : (t : Tightness) → nat_lt 9 (number_of t) ≡ false
primary_tightest loosest = refl
primary_tightest _ = refl

module _ {text : List ℕ} {symbols : List Symbol} where
  pub clause_of_begins : {room from to : ℕ} {p : Phrase} → Begins text symbols room from p to → Rereads text symbols (suc room) Clause from p to
  clause_of_begins b = record { again = b.again; read = opens b.begins b.read; same = b.same }

  pub begins_expression : {room from to : ℕ} {behind : Behind} {p : Phrase} → InFront behind (kind_at symbols to) → Rereads text symbols room (Go (Chain Disjunction)) from p to → Begins text symbols room from p to
  begins_expression {from = from} front r = record { rule = expression; begins = ap (λ (o : Option Opening). option_map (opened text) o) (expression_opens (kind_at symbols from) (starts_disjunction r.read)); again = r.again; read = joins r.read (goes (ap (λ (rule : Rule). Some rule) (no_assignment front r.again)) gives); same = r.same }

  pub begins_at : {room : ℕ} {behind : Behind} {from to : ℕ} {p : Phrase} (t : Tightness) → By text symbols room behind from p to t → InFront behind (kind_at symbols to) → Begins text symbols room from p to
  begins_at loosest by front = by front
  begins_at _ by front = begins_expression front (close_disjunction (no_operator front) (lead_at (all_above front) _ refl by))

  -- what stands in brackets is a primary
  pub bracketed_reads : {room : ℕ} {p : Phrase} (gap : Gap) (inner : List Lexeme) (from to : ℕ) → Stands text symbols from (in_brackets gap inner) to → ((start end : ℕ) → Stands text symbols start inner end → InFront layout.other (kind_at symbols end) → Begins text symbols room start p end) → Rereads text symbols (suc room) (Go Primary) from p to
  bracketed_reads gap inner from to st reads =
      let h = head st in
      let c = cut inner (close_round ∷ []) h.more in
      let e = head c.2 in
      let b = reads (from + 1) c.0 c.1 (of_other (ap closes e.kind)) in
      record { again = b.again; read = goes (ap (λ (k : Kind). row text Primary k) h.kind) (takes h.here h.is (joins (opens b.begins b.read) (takes e.here e.is (gives_at (ended e.more))))); same = b.same }

  pub lead_primary : {room from to : ℕ} {p : Phrase} → Rereads text symbols room (Go Primary) from p to → Leads text symbols room primary from p to
  lead_primary r = record { again = r.again; lead = give_back r.read; same = r.same }

  pub lead_of_primary : {room from to : ℕ} {p : Phrase} {needed : Tightness} → Above needed (kind_at symbols to) → Rereads text symbols room (Go Primary) from p to → Leads text symbols room needed from p to
  lead_of_primary {needed = needed} above r = lead_at above primary (primary_tightest needed) (λ _. lead_primary r)

  pub by_lead : {room : ℕ} (behind : Behind) {from to : ℕ} {p : Phrase} {needed : Tightness} → Above needed (kind_at symbols to) → (t : Tightness) → nat_lt (number_of t) (number_of needed) ≡ false → By text symbols room behind from p to t → Above t (kind_at symbols to) → Leads text symbols room t from p to
  by_lead behind above loosest le by = absurd (let n = above_number above in cc)
  by_lead behind above _ le by = by

-- what a clause begins with is none of these
abbrev pub opens_clause : Kind → Bool
opens_clause k = is_some (opening_of k)

some_is : {A B : Type 0} (f : A → B) (o : Option A) {b : B} → option_map f o ≡ Some b → is_some o ≡ true
some_is f (Some a) is = refl
some_is f None is = absurd (cc)

module _ {text : List ℕ} {symbols : List Symbol} where
  pub starts_clause : {room from to : ℕ} {made : Made} → Reads text symbols room Clause from made to → opens_clause (kind_at symbols from) ≡ true
  starts_clause {from = from} (opens is deeper) = some_is (opened text) (opening_of (kind_at symbols from)) is

pub arguments_begin : (line : Line) (f : Phrase) (k : Kind) → opens_clause k ≡ true → arguments line f k ≡ with_clause (λ first. Go (SecondArgument line f first))
arguments_begin line f kind.CloseRound is = absurd (cc)
arguments_begin line f _ is = refl

pub cases_begin : (line : Line) (e : Phrase) (before : Arms) (k : Kind) → opens_clause k ≡ true → cases line e before k ≡ with_clause (λ label. Go (Labels line e before (more label none)))
cases_begin line e before kind.Default is = absurd (cc)
cases_begin line e before _ is = refl

pub item_is_clause : (text : List ℕ) (k : Kind) → opens_clause k ≡ true → one_item text k ≡ Clause
item_is_clause text kind.Let is = absurd (cc)
item_is_clause text kind.Structure is = absurd (cc)
item_is_clause text kind.Procedure is = absurd (cc)
item_is_clause text _ is = refl

pub clause_begins_item : (k : Kind) → opens_clause k ≡ true → begins_item k ≡ true
clause_begins_item kind.Let is = refl
clause_begins_item kind.Structure is = refl
clause_begins_item kind.Procedure is = refl
clause_begins_item _ is = is

-- nothing stands between the turns
closed_between : (line : Line) (a c : Phrase) (k : Kind) → closes k ≡ true → between line a c k ≡ give (form.Repeat a c absent) line
closed_between line a c kind.Do is = absurd (cc)
closed_between line a c _ is = refl

pub nothing_between : {behind : Behind} {k : Kind} (line : Line) (a c : Phrase) → behind ≢ before_do → InFront behind k → between line a c k ≡ give (form.Repeat a c absent) line
nothing_between line a c not_do (of_do is) = absurd (not_do refl)
nothing_between line a c not_do (of_comma is) = ap (λ (k : Kind). between line a c k) is
nothing_between line a c not_do (of_colon is) = ap (λ (k : Kind). between line a c k) is
nothing_between line a c not_do (of_other {k = k} is) = closed_between line a c k is
