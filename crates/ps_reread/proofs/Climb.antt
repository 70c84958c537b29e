-- From how tight a form binds to how tight its place asks for: the parts of the grammar between.
use Rattle.std.proofs.Common.{◌≡◌, ℕ, List, Bool, true, false, Option, Some, None, IsSome, option_map, nat_lt, refl, sym, subst, ap}
use Rattle.ps_layout.specs.ps_symbols.declared.kind.Kind.{Kind}
use Rattle.ps_layout.specs.ps_symbols.declared.kind.Kind.TheVariants as kind
use Rattle.ps_layout.specs.ps_symbols.declared.kind.Level.TheVariants.{Disjunction, Conjunction, Sum, Product}
use Rattle.ps_layout.specs.ps_symbols.declared.kind.Opening.TheVariants as opening
use Rattle.ps_layout.specs.ps_symbols.declared.kind.Operation.{Operation}
use Rattle.ps_layout.specs.ps_symbols.declared.kind.Relating.{Relating}
use Rattle.ps_layout.specs.ps_symbols.declared.symbol.Symbol.{Symbol}
use Rattle.ps_layout.specs.ps_symbols.Kinds.{operation_of, relating_of, opening_of, start_of}
use Rattle.ps_layout.specs.ps_tree.Phrase.{Phrase}
use Rattle.ps_parse.specs.ps_reader.Grammar.{Made, a_clause, Part, Rule, Give, Go, Then, Clause, Chain, MoreChain, Relative, Compared, Factor, Application, Applied, Primary, row, relative, factor, applied, more_chain, comparison}
use Rattle.ps_parse.specs.ps_reader.Reading.{kind_at, Reads, gives, goes, joins}
use Rattle.ps_layout.specs.Layout.{Tightness, number_of, loosest, disjunction, conjunction, negation, sum, product, signed, application, primary}
use Rattle.ps_layout.specs.Layout as tight
use Rattle.ps_reread.specs.Bare.{bare}

-- what is read for a form that binds so tight, and what is left when the form has been read
abbrev pub rule_at : Tightness → Rule
rule_at loosest = Clause
rule_at disjunction = Go (Chain Disjunction)
rule_at conjunction = Go (Chain Conjunction)
rule_at negation = Go Relative
rule_at tight.comparison = Go Compared
rule_at sum = Go (Chain Sum)
rule_at product = Go (Chain Product)
rule_at signed = Go Factor
rule_at application = Go Application
rule_at primary = Go Primary

abbrev pub rest_at : Tightness → Phrase → Rule
rest_at loosest p = Give (a_clause p)
rest_at disjunction p = Go (MoreChain Disjunction p)
rest_at conjunction p = Go (MoreChain Conjunction p)
rest_at negation p = Give (a_clause p)
rest_at tight.comparison p = Give (a_clause p)
rest_at sum p = Go (MoreChain Sum p)
rest_at product p = Go (MoreChain Product p)
rest_at signed p = Give (a_clause p)
rest_at application p = Go (Applied p)
rest_at primary p = Give (a_clause p)

-- the rule is read from one place to the other as a clause that is this one but for lines
pub record Rereads (text : List ℕ) (symbols : List Symbol) (room : ℕ) (rule : Rule) (from : ℕ) (p : Phrase) (to : ℕ) : Type 0 where
  pub again : Phrase
  pub read : Reads text symbols room rule from (a_clause again) to
  pub same : bare again ≡ bare p

-- the reading of what binds so tight comes to what is left of it
pub record Leads (text : List ℕ) (symbols : List Symbol) (room : ℕ) (tightness : Tightness) (from : ℕ) (p : Phrase) (to : ℕ) : Type 0 where
  pub again : Phrase
  pub lead : (made : Made) (end : ℕ) → Reads text symbols room (rest_at tightness again) to made end → Reads text symbols room (rule_at tightness) from made end
  pub same : bare again ≡ bare p

abbrev pub opens_arguments : Kind → Bool
opens_arguments kind.OpenRound = true
opens_arguments _ = false

-- no part that binds tighter goes on with this kind
pub data Above : Tightness → Kind → Type 0 where
  above_primary : {k : Kind} → Above primary k
  above_application : {k : Kind} → Above application k
  above_signed : {k : Kind} → opens_arguments k ≡ false → Above signed k
  above_product : {k : Kind} → Above signed k → Above product k
  above_sum : {k : Kind} → operation_of Product k ≡ None → Above product k → Above sum k
  above_comparison : {k : Kind} → operation_of Sum k ≡ None → relating_of k ≡ None → Above sum k → Above tight.comparison k
  above_negation : {k : Kind} → Above tight.comparison k → Above negation k
  above_conjunction : {k : Kind} → Above negation k → Above conjunction k
  above_disjunction : {k : Kind} → operation_of Conjunction k ≡ None → Above conjunction k → Above disjunction k

-- the kinds with which a sum begins, and an expression
abbrev pub starts_term : Kind → Bool
starts_term kind.Name = true
starts_term kind.Int = true
starts_term kind.Text = true
starts_term kind.True = true
starts_term kind.False = true
starts_term kind.Nil = true
starts_term kind.OpenRound = true
starts_term kind.Begin = true
starts_term kind.OpenCurly = true
starts_term kind.Lwb = true
starts_term kind.Upb = true
starts_term kind.At = true
starts_term kind.Plus = true
starts_term kind.Minus = true
starts_term _ = false

abbrev pub starts_expression : Kind → Bool
starts_expression kind.Tilde = true
starts_expression k = starts_term k

start_is_term : (k : Kind) → IsSome (start_of k) → starts_term k ≡ true
start_is_term kind.Name is = refl
start_is_term kind.Int is = refl
start_is_term kind.Text is = refl
start_is_term kind.True is = refl
start_is_term kind.False is = refl
start_is_term kind.Nil is = refl
start_is_term kind.OpenRound is = refl
start_is_term kind.Begin is = refl
start_is_term kind.OpenCurly is = refl
start_is_term kind.Lwb is = refl
start_is_term kind.Upb is = refl
start_is_term kind.At is = refl
start_is_term _ is = absurd (cc)

-- what begins a sum begins no sign where it begins a primary, and so on
factor_plain : (k : Kind) → IsSome (start_of k) → factor k ≡ Go Application
factor_plain kind.Plus is = absurd (cc)
factor_plain kind.Minus is = absurd (cc)
factor_plain _ is = refl

relative_plain : (k : Kind) → starts_term k ≡ true → relative k ≡ Go Compared
relative_plain kind.Tilde is = absurd (cc)
relative_plain _ is = refl

term_is_expression : (k : Kind) → starts_term k ≡ true → starts_expression k ≡ true
term_is_expression kind.Tilde is = refl
term_is_expression _ is = is

pub expression_opens : (k : Kind) → starts_expression k ≡ true → opening_of k ≡ Some opening.Expression
expression_opens kind.Name is = refl
expression_opens kind.Int is = refl
expression_opens kind.Text is = refl
expression_opens kind.True is = refl
expression_opens kind.False is = refl
expression_opens kind.Nil is = refl
expression_opens kind.OpenRound is = refl
expression_opens kind.Begin is = refl
expression_opens kind.OpenCurly is = refl
expression_opens kind.Lwb is = refl
expression_opens kind.Upb is = refl
expression_opens kind.At is = refl
expression_opens kind.Plus is = refl
expression_opens kind.Minus is = refl
expression_opens kind.Tilde is = refl
expression_opens _ is = absurd (cc)

applied_ends : (f : Phrase) (k : Kind) → opens_arguments k ≡ false → applied f k ≡ Give (a_clause f)
applied_ends f kind.OpenRound is = absurd (cc)
applied_ends f _ is = refl

some_of_mapped : {A B : Type 0} (f : A → B) (o : Option A) {b : B} → option_map f o ≡ Some b → IsSome o
some_of_mapped f (Some a) is = refl
some_of_mapped f None is = absurd (cc)

same_rule : {A : Type 0} {o : Option A} {a b : A} → o ≡ Some a → o ≡ Some b → a ≡ b
same_rule is was = cc

module _ {text : List ℕ} {symbols : List Symbol} where
  pub reads_as : {room from to : ℕ} {rule other : Rule} {made : Made} → rule ≡ other → Reads text symbols room rule from made to → Reads text symbols room other from made to
  reads_as {room} {from} {to} {rule} {other} {made} same = subst (λ (r : Rule). Reads text symbols room r from made to) same

  -- a part is read by its row
  pub unrow : {room from to : ℕ} {part : Part} {rule : Rule} {made : Made} → row text part (kind_at symbols from) ≡ Some rule → Reads text symbols room (Go part) from made to → Reads text symbols room rule from made to
  unrow here (goes is more) = reads_as (same_rule is here) more

  pub first_read : {room from to : ℕ} {first : Rule} {next : Made → Rule} {made : Made} → Reads text symbols room (Then first next) from made to → (one : Made) × (middle : ℕ) × Reads text symbols room first from one middle
  first_read (joins first more) = (_, _, first)

  starts_primary : {room from to : ℕ} {made : Made} → Reads text symbols room (Go Primary) from made to → IsSome (start_of (kind_at symbols from))
  starts_primary {from = from} (goes is more) = some_of_mapped _ (start_of (kind_at symbols from)) is

  starts_application : {room from to : ℕ} {made : Made} → Reads text symbols room (Go Application) from made to → IsSome (start_of (kind_at symbols from))
  starts_application read = starts_primary (first_read (unrow refl read)).2

  starts_factor : {room from to : ℕ} {made : Made} (k : Kind) → k ≡ kind_at symbols from → Reads text symbols room (factor k) from made to → starts_term (kind_at symbols from) ≡ true
  starts_factor kind.Plus is read = ap starts_term (sym is)
  starts_factor kind.Minus is read = ap starts_term (sym is)
  starts_factor {from = from} _ is read = start_is_term (kind_at symbols from) (starts_application read)

  starts_product : {room from to : ℕ} {made : Made} → Reads text symbols room (Go (Chain Product)) from made to → starts_term (kind_at symbols from) ≡ true
  starts_product {from = from} read = starts_factor (kind_at symbols from) refl (unrow refl (first_read (unrow refl read)).2)

  starts_sum : {room from to : ℕ} {made : Made} → Reads text symbols room (Go (Chain Sum)) from made to → starts_term (kind_at symbols from) ≡ true
  starts_sum read = starts_product (first_read (unrow refl read)).2

  starts_compared : {room from to : ℕ} {made : Made} → Reads text symbols room (Go Compared) from made to → starts_term (kind_at symbols from) ≡ true
  starts_compared read = starts_sum (first_read (unrow refl read)).2

  starts_relative : {room from to : ℕ} {made : Made} (k : Kind) → k ≡ kind_at symbols from → Reads text symbols room (relative k) from made to → starts_expression (kind_at symbols from) ≡ true
  starts_relative kind.Tilde is read = ap starts_expression (sym is)
  starts_relative {from = from} _ is read = term_is_expression (kind_at symbols from) (starts_compared read)

  starts_conjunction : {room from to : ℕ} {made : Made} → Reads text symbols room (Go (Chain Conjunction)) from made to → starts_expression (kind_at symbols from) ≡ true
  starts_conjunction {from = from} read = starts_relative (kind_at symbols from) refl (unrow refl (first_read (unrow refl read)).2)

  pub starts_disjunction : {room from to : ℕ} {made : Made} → Reads text symbols room (Go (Chain Disjunction)) from made to → starts_expression (kind_at symbols from) ≡ true
  starts_disjunction read = starts_conjunction (first_read (unrow refl read)).2

  pub give_back : {room from to : ℕ} {rule : Rule} {one : Made} → Reads text symbols room rule from one to → (made : Made) (end : ℕ) → Reads text symbols room (Give one) to made end → Reads text symbols room rule from made end
  give_back read made end gives = read

  module _ {room from to : ℕ} {p : Phrase} where
    pub close_primary : Leads text symbols room primary from p to → Rereads text symbols room (Go Primary) from p to
    close_primary l = record { again = l.again; read = l.lead _ _ gives; same = l.same }

    lift_application : Rereads text symbols room (Go Primary) from p to → Leads text symbols room application from p to
    lift_application r = record { again = r.again; lead = λ made end more. goes refl (joins r.read more); same = r.same }

    pub close_application : opens_arguments (kind_at symbols to) ≡ false → Leads text symbols room application from p to → Rereads text symbols room (Go Application) from p to
    close_application none l = record { again = l.again; read = l.lead _ _ (goes (ap Some (applied_ends l.again (kind_at symbols to) none)) gives); same = l.same }

    lift_signed : Rereads text symbols room (Go Application) from p to → Leads text symbols room signed from p to
    lift_signed r = record { again = r.again; lead = give_back (goes (ap Some (factor_plain (kind_at symbols from) (starts_application r.read))) r.read); same = r.same }

    pub close_signed : Leads text symbols room signed from p to → Rereads text symbols room (Go Factor) from p to
    close_signed l = record { again = l.again; read = l.lead _ _ gives; same = l.same }

    lift_product : Rereads text symbols room (Go Factor) from p to → Leads text symbols room product from p to
    lift_product r = record { again = r.again; lead = λ made end more. goes refl (joins r.read more); same = r.same }

    pub close_product : operation_of Product (kind_at symbols to) ≡ None → Leads text symbols room product from p to → Rereads text symbols room (Go (Chain Product)) from p to
    close_product none l = record { again = l.again; read = l.lead _ _ (goes (ap (λ (o : Option Operation). Some (more_chain Product l.again (kind_at symbols to) o)) none) gives); same = l.same }

    lift_sum : Rereads text symbols room (Go (Chain Product)) from p to → Leads text symbols room sum from p to
    lift_sum r = record { again = r.again; lead = λ made end more. goes refl (joins r.read more); same = r.same }

    pub close_sum : operation_of Sum (kind_at symbols to) ≡ None → Leads text symbols room sum from p to → Rereads text symbols room (Go (Chain Sum)) from p to
    close_sum none l = record { again = l.again; read = l.lead _ _ (goes (ap (λ (o : Option Operation). Some (more_chain Sum l.again (kind_at symbols to) o)) none) gives); same = l.same }

    lift_comparison : relating_of (kind_at symbols to) ≡ None → Rereads text symbols room (Go (Chain Sum)) from p to → Leads text symbols room tight.comparison from p to
    lift_comparison none r = record { again = r.again; lead = give_back (goes refl (joins r.read (goes (ap (λ (o : Option Relating). Some (comparison text r.again (kind_at symbols to) o)) none) gives))); same = r.same }

    pub close_comparison : Leads text symbols room tight.comparison from p to → Rereads text symbols room (Go Compared) from p to
    close_comparison l = record { again = l.again; read = l.lead _ _ gives; same = l.same }

    lift_negation : Rereads text symbols room (Go Compared) from p to → Leads text symbols room negation from p to
    lift_negation r = record { again = r.again; lead = give_back (goes (ap Some (relative_plain (kind_at symbols from) (starts_compared r.read))) r.read); same = r.same }

    pub close_negation : Leads text symbols room negation from p to → Rereads text symbols room (Go Relative) from p to
    close_negation l = record { again = l.again; read = l.lead _ _ gives; same = l.same }

    lift_conjunction : Rereads text symbols room (Go Relative) from p to → Leads text symbols room conjunction from p to
    lift_conjunction r = record { again = r.again; lead = λ made end more. goes refl (joins r.read more); same = r.same }

    pub close_conjunction : operation_of Conjunction (kind_at symbols to) ≡ None → Leads text symbols room conjunction from p to → Rereads text symbols room (Go (Chain Conjunction)) from p to
    close_conjunction none l = record { again = l.again; read = l.lead _ _ (goes (ap (λ (o : Option Operation). Some (more_chain Conjunction l.again (kind_at symbols to) o)) none) gives); same = l.same }

    lift_disjunction : Rereads text symbols room (Go (Chain Conjunction)) from p to → Leads text symbols room disjunction from p to
    lift_disjunction r = record { again = r.again; lead = λ made end more. goes refl (joins r.read more); same = r.same }

    pub close_disjunction : operation_of Disjunction (kind_at symbols to) ≡ None → Leads text symbols room disjunction from p to → Rereads text symbols room (Go (Chain Disjunction)) from p to
    close_disjunction none l = record { again = l.again; read = l.lead _ _ (goes (ap (λ (o : Option Operation). Some (more_chain Disjunction l.again (kind_at symbols to) o)) none) gives); same = l.same }

    at_application : (own : Tightness) → nat_lt (number_of own) (number_of application) ≡ false → (Above own (kind_at symbols to) → Leads text symbols room own from p to) → Leads text symbols room application from p to
    at_application loosest le own = absurd (cc)
    at_application disjunction le own = absurd (cc)
    at_application conjunction le own = absurd (cc)
    at_application negation le own = absurd (cc)
    at_application tight.comparison le own = absurd (cc)
    at_application sum le own = absurd (cc)
    at_application product le own = absurd (cc)
    at_application signed le own = absurd (cc)
    at_application application le own = own above_application
    at_application primary le own = lift_application (close_primary (own above_primary))

    -- what binds tighter than its place asks for is read there
    pub lead_at : {needed : Tightness} → Above needed (kind_at symbols to) → (own : Tightness) → nat_lt (number_of own) (number_of needed) ≡ false → (Above own (kind_at symbols to) → Leads text symbols room own from p to) → Leads text symbols room needed from p to
    lead_at above_primary loosest le own = absurd (cc)
    lead_at above_primary disjunction le own = absurd (cc)
    lead_at above_primary conjunction le own = absurd (cc)
    lead_at above_primary negation le own = absurd (cc)
    lead_at above_primary tight.comparison le own = absurd (cc)
    lead_at above_primary sum le own = absurd (cc)
    lead_at above_primary product le own = absurd (cc)
    lead_at above_primary signed le own = absurd (cc)
    lead_at above_primary application le own = absurd (cc)
    lead_at above_primary primary le own = own above_primary
    lead_at above_application own le given = at_application own le given
    lead_at (above_signed none) loosest le own = absurd (cc)
    lead_at (above_signed none) disjunction le own = absurd (cc)
    lead_at (above_signed none) conjunction le own = absurd (cc)
    lead_at (above_signed none) negation le own = absurd (cc)
    lead_at (above_signed none) tight.comparison le own = absurd (cc)
    lead_at (above_signed none) sum le own = absurd (cc)
    lead_at (above_signed none) product le own = absurd (cc)
    lead_at (above_signed none) signed le own = own (above_signed none)
    lead_at (above_signed none) _ le own = lift_signed (close_application none (at_application _ refl own))
    lead_at (above_product above) loosest le own = absurd (cc)
    lead_at (above_product above) disjunction le own = absurd (cc)
    lead_at (above_product above) conjunction le own = absurd (cc)
    lead_at (above_product above) negation le own = absurd (cc)
    lead_at (above_product above) tight.comparison le own = absurd (cc)
    lead_at (above_product above) sum le own = absurd (cc)
    lead_at (above_product above) product le own = own (above_product above)
    lead_at (above_product above) _ le own = lift_product (close_signed (lead_at above _ refl own))
    lead_at (above_sum none above) loosest le own = absurd (cc)
    lead_at (above_sum none above) disjunction le own = absurd (cc)
    lead_at (above_sum none above) conjunction le own = absurd (cc)
    lead_at (above_sum none above) negation le own = absurd (cc)
    lead_at (above_sum none above) tight.comparison le own = absurd (cc)
    lead_at (above_sum none above) sum le own = own (above_sum none above)
    lead_at (above_sum none above) _ le own = lift_sum (close_product none (lead_at above _ refl own))
    lead_at (above_comparison none no_relation above) loosest le own = absurd (cc)
    lead_at (above_comparison none no_relation above) disjunction le own = absurd (cc)
    lead_at (above_comparison none no_relation above) conjunction le own = absurd (cc)
    lead_at (above_comparison none no_relation above) negation le own = absurd (cc)
    lead_at (above_comparison none no_relation above) tight.comparison le own = own (above_comparison none no_relation above)
    lead_at (above_comparison none no_relation above) _ le own = lift_comparison no_relation (close_sum none (lead_at above _ refl own))
    lead_at (above_negation above) loosest le own = absurd (cc)
    lead_at (above_negation above) disjunction le own = absurd (cc)
    lead_at (above_negation above) conjunction le own = absurd (cc)
    lead_at (above_negation above) negation le own = own (above_negation above)
    lead_at (above_negation above) _ le own = lift_negation (close_comparison (lead_at above _ refl own))
    lead_at (above_conjunction above) loosest le own = absurd (cc)
    lead_at (above_conjunction above) disjunction le own = absurd (cc)
    lead_at (above_conjunction above) conjunction le own = own (above_conjunction above)
    lead_at (above_conjunction above) _ le own = lift_conjunction (close_negation (lead_at above _ refl own))
    lead_at (above_disjunction none above) loosest le own = absurd (cc)
    lead_at (above_disjunction none above) disjunction le own = own (above_disjunction none above)
    lead_at (above_disjunction none above) _ le own = lift_disjunction (close_conjunction none (lead_at above _ refl own))
