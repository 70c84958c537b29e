-- In what the grammar reads each leaf fits, where the symbols fit.
use Rattle.std.proofs.Common.{ℕ, Bool, true, false, List, [], ◌∷◌, ◌++◌, subst}
use Rattle.std.specs.Prelude.{Option, Some, None, option_map}
use Rattle.ps_parse.specs.ps_base.TyView.{TyView, TyViews, and_type}
use Rattle.ps_parse.specs.ps_base.TyView as types
use Rattle.ps_parse.specs.ps_base.declared.line.Line.{Line}
use Rattle.ps_parse.specs.ps_symbols.declared.kind.Kind.{Kind}
use Rattle.ps_parse.specs.ps_symbols.declared.kind.Kind.TheVariants as kind
use Rattle.ps_parse.specs.ps_symbols.declared.kind.Level.{Level}
use Rattle.ps_parse.specs.ps_symbols.declared.kind.Level.TheVariants.{Disjunction, Conjunction, Sum, Product}
use Rattle.ps_parse.specs.ps_symbols.declared.kind.Operation.{Operation}
use Rattle.ps_parse.specs.ps_symbols.declared.kind.Operation.TheVariants as operation
use Rattle.ps_parse.specs.ps_symbols.declared.kind.Opening.{Opening}
use Rattle.ps_parse.specs.ps_symbols.declared.kind.Opening.TheVariants as opening
use Rattle.ps_parse.specs.ps_symbols.declared.kind.Relating.{Relating}
use Rattle.ps_parse.specs.ps_symbols.declared.kind.Relating.TheVariants.{Compares, IsOf}
use Rattle.ps_parse.specs.ps_symbols.declared.kind.Start.{Start}
use Rattle.ps_parse.specs.ps_symbols.declared.kind.Start.TheVariants as start
use Rattle.ps_parse.specs.ps_symbols.declared.kind.TypeStart.{TypeStart}
use Rattle.ps_parse.specs.ps_symbols.declared.kind.TypeStart.TheVariants as typed
use Rattle.ps_parse.specs.ps_symbols.declared.symbol.Symbol.{Symbol}
use Rattle.ps_parse.specs.ps_symbols.Kinds.{operation_of, relating_of, begins_item, begins_type, opening_of, start_of, type_start_of}
use Rattle.ps_parse.specs.ps_tree.Phrase.{NameAt, GroupAt, Phrase, Phrases, none, more, Arms, no_arms, more_arms, arm, WriteItem, item, WriteItems, no_items, more_items}
use Rattle.ps_parse.specs.ps_tree.Composing.{and_then, and_arm, and_item, joined}
use Rattle.ps_parse.specs.ps_reader.Grammar.{Made, a_clause, Part, Nested, a_clause_inside, a_type_inside, Rule, Give, Take, Go, Open, Then}
use Rattle.ps_parse.specs.ps_reader.Grammar.{the_clause, the_type, the_types, the_groups, the_item}
use Rattle.ps_parse.specs.ps_reader.Grammar as grammar
use Rattle.ps_parse.specs.ps_reader.Reading.{Reads, kind_at}
use Rattle.ps_parse.specs.ps_reader.Reading as reading
use Rattle.ps_parse.specs.Program.{ReadsAs}
use Rattle.ps_parse.specs.ps_scan.declared.token.Token.{Token}
use Rattle.ps_parse.specs.ps_scan.Tokens.{HasTokens}
use Rattle.ps_parse.specs.ps_symbols.Symbols.{symbols}
use Rattle.ps_soundness.specs.ps_type_text.Texts.{IsName}
use Rattle.ps_soundness.specs.Valued.{IsValued, IsGiven, AllValued}
use Rattle.ps_soundness.proofs.Valued.{given_by}
use Rattle.ps_leaf_laws.specs.Leaves.{AreGroups, LeavesFit, LeavesFitInAll, LeavesFitInMaybe, LeavesFitInArms, LeavesFitInWritten}
use Rattle.ps_leaf_laws.proofs.Leaves.{FitsAs, AllFit, symbols_fit}

-- what is so of what a part gives, and of what it goes on after
abbrev PartGives : Part → Made → Type 0
PartGives grammar.Written made = LeavesFitInWritten (more_items (the_item made) no_items)
PartGives (grammar.Width e) made = LeavesFitInWritten (more_items (the_item made) no_items)
PartGives grammar.Parameters made = AreGroups (the_groups made)
PartGives (grammar.Groups before) made = AreGroups (the_groups made)
PartGives (grammar.MoreGroups of_last before) made = AreGroups (the_groups made)
PartGives (grammar.NextGroup of_last before) made = AreGroups (the_groups made)
PartGives grammar.Result made = IsGiven (the_type made)
PartGives grammar.ParameterTypes made = AllValued (the_types made)
PartGives (grammar.MoreTypes before) made = AllValued (the_types made)
PartGives other made = LeavesFit (the_clause made)

abbrev PartFits : Part → Type 0
PartFits (grammar.Ending all) = LeavesFit all
PartFits (grammar.Ended all) = LeavesFit all
PartFits (grammar.Items line before) = LeavesFitInAll before
PartFits (grammar.MoreItems line before) = LeavesFitInAll before
PartFits (grammar.Groups before) = AreGroups before
PartFits (grammar.MoreGroups of_last before) = IsValued of_last × AreGroups before
PartFits (grammar.NextGroup of_last before) = IsValued of_last × AreGroups before
PartFits (grammar.MoreTypes before) = AllValued before
PartFits (grammar.Binding line name) = IsName name.name
PartFits (grammar.Choice line c) = LeavesFit c
PartFits (grammar.Until line a) = LeavesFit a
PartFits (grammar.Test line a) = LeavesFit a
PartFits (grammar.Between line a c) = LeavesFit a × LeavesFit c
PartFits (grammar.Step line name a b) = IsName name.name × LeavesFit a × LeavesFit b
PartFits (grammar.Body line name a b c) = IsName name.name × LeavesFit a × LeavesFit b × LeavesFitInMaybe c
PartFits (grammar.Cases line e before) = LeavesFit e × LeavesFitInArms before
PartFits (grammar.Labels line e before labels) = LeavesFit e × LeavesFitInArms before × LeavesFitInAll labels
PartFits (grammar.Width e) = LeavesFit e
PartFits (grammar.MoreWritten line before) = LeavesFitInWritten before
PartFits (grammar.Assignment left) = LeavesFit left
PartFits (grammar.MoreChain level left) = LeavesFit left
PartFits (grammar.Comparison left) = LeavesFit left
PartFits (grammar.Applied f) = LeavesFit f
PartFits (grammar.Arguments line f) = LeavesFit f
PartFits (grammar.SecondArgument line f first) = LeavesFit f × LeavesFit first
PartFits (grammar.MoreArguments line f before) = LeavesFit f × LeavesFitInAll before
PartFits (grammar.MoreElements line l t before) = IsValued t × LeavesFit l × LeavesFitInAll before
PartFits other = Unit {0}

abbrev NestedGives : Nested → Made → Type 0
NestedGives a_clause_inside made = LeavesFit (the_clause made)
NestedGives a_type_inside made = IsValued (the_type made)

abbrev Gives : Rule → Made → Type 0
Gives (Go part) made = PartGives part made
Gives (Open nested) made = NestedGives nested made
Gives other made = Unit {0}

and_named : (before : List GroupAt) (last : GroupAt) → AreGroups before → IsName last.name.name → IsValued last.ty → AreGroups (before ++ last ∷ [])
and_named [] last h k l = ((k, l), tt)
and_named (first ∷ rest) last h k l = (h.0, and_named rest last h.1 k l)

and_valued : (before : TyViews) (last : TyView) → AllValued before → IsValued last → AllValued (and_type before last)
and_valued types.none last h k = (k, tt)
and_valued (types.more first rest) last h k = (h.0, and_valued rest last h.1 k)

and_clause : (before : Phrases) (last : Phrase) → LeavesFitInAll before → LeavesFit last →
    LeavesFitInAll (and_then before last)
and_clause none last h k = (k, tt)
and_clause (more first rest) last h k = (h.0, and_clause rest last h.1 k)

and_one_arm : (before : Arms) (labels : Phrases) (a : Phrase) → LeavesFitInArms before → LeavesFitInAll labels → LeavesFit a →
    LeavesFitInArms (and_arm before (arm labels a))
and_one_arm no_arms labels a h k l = (k, l, tt)
and_one_arm (more_arms (arm others b) rest) labels a h k l = (h.0, h.1, and_one_arm rest labels a h.2 k l)

and_one_item : (before : WriteItems) (last : WriteItem) → LeavesFitInWritten before → LeavesFitInWritten (more_items last no_items) →
    LeavesFitInWritten (and_item before last)
and_one_item no_items last h k = k
and_one_item (more_items (item e w line) rest) last h k = (h.0, h.1, and_one_item rest last h.2 k)

both_joined : (operation : Operation) (a b : Phrase) (line : Line) → LeavesFit a → LeavesFit b → LeavesFit (joined operation a b line)
both_joined operation.Or a b line h k = (h, k)
both_joined other a b line h k = (h, k)

module _ (text : List ℕ) where
  -- whatever a rule is read as is such, where each token that is taken fits
  abbrev Good : Rule → (Made → Type 0) → Type 0
  Good (Give made) Is = Is made
  Good (Take kind next) Is = (symbol : Symbol) → FitsAs text kind symbol.token → Good (next symbol) Is
  Good (Go part) Is = PartFits part × ((made : Made) → PartGives part made → Is made)
  Good (Open nested) Is = (made : Made) → NestedGives nested made → Is made
  Good (Then first next) Is = Good first (Gives first) × ((made : Made) → Gives first made → Good (next made) Is)

  abbrev GoodRow : Option Rule → (Made → Type 0) → Type 0
  GoodRow None Is = Unit {0}
  GoodRow (Some rule) Is = Good rule Is

  -- The rows of the grammar: each is good where what its part goes on after fits.
  good_ending : (all : Phrase) (kind : Kind) → LeavesFit all → GoodRow (grammar.ending all kind) (λ made. LeavesFit (the_clause made))
  good_ending all kind.Question ok = λ s _. (ok, λ m h. h)
  good_ending all kind.EndOfText ok = ok
  good_ending all other ok = tt

  good_ended : (all : Phrase) (kind : Kind) → LeavesFit all → GoodRow (grammar.ended all kind) (λ made. LeavesFit (the_clause made))
  good_ended all kind.EndOfText ok = ok
  good_ended all other ok = tt

  good_items : (line : Line) (before : Phrases) (begins : Bool) → LeavesFitInAll before →
      Good (grammar.items line before begins) (λ made. LeavesFit (the_clause made))
  good_items line before true ok = ((tt, λ m h. h), λ m h. (and_clause before (the_clause m) ok h, λ n k. k))
  good_items line before false ok = (ok, λ m h. h)

  good_items_end : (line : Line) (before : Phrases) (kind : Kind) → LeavesFitInAll before →
      Good (grammar.items_end line before kind) (λ made. LeavesFit (the_clause made))
  good_items_end line before kind.Semicolon ok = λ s _. (ok, λ m h. h)
  good_items_end line before other ok = ok

  good_item : (kind : Kind) → Good (grammar.one_item text kind) (λ made. LeavesFit (the_clause made))
  good_item kind.Let = λ w _ n named. (named, λ m h. h)
  good_item kind.Structure = λ w _ n named s _. ((tt, λ m h. h), λ m h. λ t _. (named, h))
  good_item kind.Procedure = λ w _ n named. ((tt, λ m h. h), λ m h. (named, h))
  good_item other = λ m h. h

  good_binding : (line : Line) (name : NameAt) (kind : Kind) → IsName name.name → GoodRow (grammar.binding line name kind) (λ made. LeavesFit (the_clause made))
  good_binding line name kind.Equals is = λ s _. (λ m h. h, λ m h. (is, h))
  good_binding line name kind.Becomes is = λ s _. (λ m h. h, λ m h. (is, h))
  good_binding line name other is = tt

  good_literal : (line : Line) → Good (grammar.literal line) (λ made. LeavesFit (the_clause made))
  good_literal line = λ s _. ((tt, λ m h. h), λ m h. ((tt, λ n k. k), λ n k. λ t _ u _. (λ o l. l, λ o l. (h, k, l))))

  good_parameters : (begins : Bool) → Good (grammar.parameters begins) (λ made. AreGroups (the_groups made))
  good_parameters true = (tt, λ m h. h)
  good_parameters false = tt

  good_more_groups : (of_last : TyView) (before : List GroupAt) (kind : Kind) → IsValued of_last → AreGroups before →
      Good (grammar.more_groups of_last before kind) (λ made. AreGroups (the_groups made))
  good_more_groups of_last before kind.Comma is ok = λ s _. ((is, ok), λ m h. h)
  good_more_groups of_last before kind.Semicolon is ok = λ s _. (ok, λ m h. h)
  good_more_groups of_last before other is ok = ok

  good_next_group : (of_last : TyView) (before : List GroupAt) (kind : Kind) → IsValued of_last → AreGroups before →
      Good (grammar.next_group text of_last before kind) (λ made. AreGroups (the_groups made))
  good_next_group of_last before kind.Name is ok = λ n named. ((is, and_named before _ ok named is), λ m h. h)
  good_next_group of_last before other is ok = (ok, λ m h. h)

  good_result : (kind : Kind) → Good (grammar.result kind) (λ made. IsGiven (the_type made))
  good_result kind.Arrow = λ s _ m h. given_by (the_type m) h
  good_result other = tt

  good_type : (t : TypeStart) → Good (grammar.typed_as t) (λ made. IsValued (the_type made))
  good_type typed.Vector = λ s _. (λ m h. h, λ m h. h)
  good_type typed.Proc = λ s _ t _. ((tt, λ m h. h), λ m h. ((tt, λ n k. k), λ n k. λ u _. (h, k)))
  good_type other = λ s _. tt

  good_parameter_types : (begins : Bool) → Good (grammar.parameter_types begins) (λ made. AllValued (the_types made))
  good_parameter_types true = (λ m h. h, λ m h. ((h, tt), λ n k. k))
  good_parameter_types false = tt

  good_more_types : (before : TyViews) (kind : Kind) → AllValued before → Good (grammar.more_types before kind) (λ made. AllValued (the_types made))
  good_more_types before kind.Comma ok = λ s _. (λ m h. h, λ m h. (and_valued before (the_type m) ok h, λ n k. k))
  good_more_types before other ok = ok

  good_choice : (line : Line) (c : Phrase) (kind : Kind) → LeavesFit c → GoodRow (grammar.choice line c kind) (λ made. LeavesFit (the_clause made))
  good_choice line c kind.Do ok = λ s _. (λ m h. h, λ m h. (ok, h))
  good_choice line c kind.Then ok = λ s _. (λ m h. h, λ m h. λ t _. (λ n k. k, λ n k. (ok, h, k)))
  good_choice line c other ok = tt

  good_until : (line : Line) (a : Phrase) (kind : Kind) → LeavesFit a → Good (grammar.until line a kind) (λ made. LeavesFit (the_clause made))
  good_until line a kind.Semicolon ok = λ s _. (ok, λ m h. h)
  good_until line a other ok = (ok, λ m h. h)

  good_between : (line : Line) (a c : Phrase) (kind : Kind) → LeavesFit a → LeavesFit c →
      Good (grammar.between line a c kind) (λ made. LeavesFit (the_clause made))
  good_between line a c kind.Do ok ok' = λ s _. (λ m h. h, λ m h. (ok, ok', h))
  good_between line a c other ok ok' = (ok, ok', tt)

  good_step : (line : Line) (name : NameAt) (a b : Phrase) (kind : Kind) → IsName name.name → LeavesFit a → LeavesFit b →
      Good (grammar.step line name a b kind) (λ made. LeavesFit (the_clause made))
  good_step line name a b kind.By is ok ok' = λ s _. (λ m h. h, λ m h. ((is, ok, ok', h), λ n k. k))
  good_step line name a b other is ok ok' = ((is, ok, ok', tt), λ m h. h)

  good_cases : (line : Line) (e : Phrase) (before : Arms) (kind : Kind) → LeavesFit e → LeavesFitInArms before →
      Good (grammar.cases line e before kind) (λ made. LeavesFit (the_clause made))
  good_cases line e before kind.Default ok arms = λ s _ t _. (λ m h. h, λ m h. (ok, arms, h))
  good_cases line e before other ok arms = (λ m h. h, λ m h. ((ok, arms, (h, tt)), λ n k. k))

  good_labels : (line : Line) (e : Phrase) (before : Arms) (labels : Phrases) (kind : Kind) → LeavesFit e → LeavesFitInArms before →
      LeavesFitInAll labels → Good (grammar.labels line e before labels kind) (λ made. LeavesFit (the_clause made))
  good_labels line e before labels kind.Comma ok arms all = λ s _. (λ m h. h, λ m h. ((ok, arms, and_clause labels (the_clause m) all h), λ n k. k))
  good_labels line e before labels other ok arms all = λ s _.
      (λ m h. h, λ m h. λ t _. ((ok, and_one_arm before labels (the_clause m) arms all h), λ n k. k))

  good_width : (e : Phrase) (kind : Kind) → LeavesFit e → Good (grammar.width e kind)
      (λ made. LeavesFitInWritten (more_items (the_item made) no_items))
  good_width e kind.Colon ok = λ s _. (λ m h. h, λ m h. (ok, h, tt))
  good_width e other ok = (ok, tt, tt)

  good_more_written : (line : Line) (before : WriteItems) (kind : Kind) → LeavesFitInWritten before →
      Good (grammar.more_written line before kind) (λ made. LeavesFit (the_clause made))
  good_more_written line before kind.Comma ok = λ s _. ((tt, λ m h. h), λ m h. (and_one_item before (the_item m) ok h, λ n k. k))
  good_more_written line before other ok = ok

  good_assignment : (left : Phrase) (kind : Kind) → LeavesFit left → Good (grammar.assignment left kind) (λ made. LeavesFit (the_clause made))
  good_assignment left kind.Becomes ok = λ s _. (λ m h. h, λ m h. (ok, h))
  good_assignment left other ok = ok

  good_operand : (level : Level) → PartFits (grammar.operand level) ×
      ((made : Made) → PartGives (grammar.operand level) made → LeavesFit (the_clause made))
  good_operand Disjunction = (tt, λ m h. h)
  good_operand Conjunction = (tt, λ m h. h)
  good_operand Sum = (tt, λ m h. h)
  good_operand Product = (tt, λ m h. h)

  good_chain : (level : Level) → Good (Then (Go (grammar.operand level)) (λ made. Go (grammar.MoreChain level (the_clause made))))
      (λ made. LeavesFit (the_clause made))
  good_chain level = (((good_operand level).0, λ m h. h), λ m h. ((good_operand level).1 m h, λ n k. k))

  good_more_chain : (level : Level) (left : Phrase) (kind : Kind) (o : Option Operation) → LeavesFit left →
      Good (grammar.more_chain level left kind o) (λ made. LeavesFit (the_clause made))
  good_more_chain level left kind (Some operation) ok = λ s _.
      (((good_operand level).0, λ m h. h), λ m h. (both_joined operation left (the_clause m) _ ok ((good_operand level).1 m h), λ n k. k))
  good_more_chain level left kind None ok = ok

  good_relative : (kind : Kind) → Good (grammar.relative kind) (λ made. LeavesFit (the_clause made))
  good_relative kind.Tilde = λ s _. ((tt, λ m h. h), λ m h. h)
  good_relative other = (tt, λ m h. h)

  good_comparison : (left : Phrase) (sign : Kind) (o : Option Relating) → LeavesFit left →
      Good (grammar.comparison text left sign o) (λ made. LeavesFit (the_clause made))
  good_comparison left sign (Some (Compares op)) ok = λ s _. ((tt, λ m h. h), λ m h. (ok, h))
  good_comparison left sign (Some (IsOf negated)) ok = λ s _ n _. ok
  good_comparison left sign None ok = ok

  good_factor : (kind : Kind) → Good (grammar.factor kind) (λ made. LeavesFit (the_clause made))
  good_factor kind.Plus = λ s _. ((tt, λ m h. h), λ m h. h)
  good_factor kind.Minus = λ s _. ((tt, λ m h. h), λ m h. h)
  good_factor other = (tt, λ m h. h)

  good_applied : (f : Phrase) (kind : Kind) → LeavesFit f → Good (grammar.applied f kind) (λ made. LeavesFit (the_clause made))
  good_applied f kind.OpenRound ok = λ s _. ((ok, λ m h. h), λ m h. (h, λ n k. k))
  good_applied f other ok = ok

  good_arguments : (line : Line) (f : Phrase) (kind : Kind) → LeavesFit f → Good (grammar.arguments line f kind) (λ made. LeavesFit (the_clause made))
  good_arguments line f kind.CloseRound ok = λ s _. (ok, tt)
  good_arguments line f other ok = (λ m h. h, λ m h. ((ok, h), λ n k. k))

  good_second : (line : Line) (f first : Phrase) (kind : Kind) → LeavesFit f → LeavesFit first →
      Good (grammar.second_argument line f first kind) (λ made. LeavesFit (the_clause made))
  good_second line f first kind.Bar ok ok' = λ s _. (λ m h. h, λ m h. λ t _. (ok, ok', h))
  good_second line f first other ok ok' = ((ok, (ok', tt)), λ m h. h)

  good_more_arguments : (line : Line) (f : Phrase) (before : Phrases) (kind : Kind) → LeavesFit f → LeavesFitInAll before →
      Good (grammar.more_arguments line f before kind) (λ made. LeavesFit (the_clause made))
  good_more_arguments line f before kind.Comma ok all = λ s _. (λ m h. h, λ m h. ((ok, and_clause before (the_clause m) all h), λ n k. k))
  good_more_arguments line f before other ok all = λ s _. (ok, all)

  good_primary : (kind : Kind) (s : Start) → Good (grammar.primary text kind s) (λ made. LeavesFit (the_clause made))
  good_primary kind start.Name = λ s _. tt
  good_primary kind start.Int = λ s fits. fits
  good_primary kind start.Text = λ s fits. fits
  good_primary kind (start.Flag value) = λ s _. tt
  good_primary kind start.Nil = λ s _. tt
  good_primary kind start.Round = λ s _. (λ m h. h, λ m h. λ t _. h)
  good_primary kind (start.Block last) = λ s _. ((tt, λ m h. h), λ m h. λ t _. h)
  good_primary kind (start.Bound upper) = λ s _ t _. (λ m h. h, λ m h. λ u _. h)
  good_primary kind start.Elements = λ s _. (λ m h. h, λ m h. λ t _. (λ n k. k, λ n k. λ u _. (λ o l. l, λ o l. ((k, h, (l, tt)), λ p q. q))))

  good_more_elements : (line : Line) (l : Phrase) (t : TyView) (before : Phrases) (kind : Kind) → IsValued t → LeavesFit l → LeavesFitInAll before →
      Good (grammar.more_elements line l t before kind) (λ made. LeavesFit (the_clause made))
  good_more_elements line l t before kind.Comma is ok all = λ s _. (λ m h. h, λ m h. ((is, ok, and_clause before (the_clause m) all h), λ n k. k))
  good_more_elements line l t before other is ok all = λ s _. (is, ok, all)

  good_opened : (o : Opening) → Good (grammar.opened text o) (λ made. LeavesFit (the_clause made))
  good_opened opening.Condition = λ w _. (λ m h. h, λ m h. (h, λ n k. k))
  good_opened opening.Repetition = λ w _. (λ m h. h, λ m h. λ s _. (λ n k. k, λ n k. (h, k)))
  good_opened opening.Repeating = λ w _. (λ m h. h, λ m h. (h, λ n k. k))
  good_opened opening.Counting = λ w _ n named s _. (λ m h. h, λ m h. λ t _. (λ o k. k, λ o k. ((named, h, k), λ p q. q)))
  good_opened opening.Choosing = λ w _. (λ m h. h, λ m h. λ s _. ((h, tt), λ n k. k))
  good_opened opening.Writing = λ w _. ((tt, λ m h. h), λ m h. (h, λ n k. k))
  good_opened opening.Aborting = λ w _. tt
  good_opened opening.Procedure = λ w _. (tt, λ m h. h)
  good_opened opening.Filling = λ w _. (λ m h. h, λ m h. λ s _. (λ n k. k, λ n k. λ t _. (λ o l. l, λ o l. (h, k, l))))
  good_opened opening.Expression = ((tt, λ m h. h), λ m h. (h, λ n k. k))

  good_option : {A : Type 0} (f : A → Rule) (Is : Made → Type 0) (o : Option A) → ((a : A) → Good (f a) Is) → GoodRow (option_map f o) Is
  good_option f Is None h = tt
  good_option f Is (Some a) h = h a

  good_nested : (nested : Nested) (kind : Kind) → GoodRow (grammar.inside text nested kind) (NestedGives nested)
  good_nested a_clause_inside kind = good_option (grammar.opened text) (NestedGives a_clause_inside) (opening_of kind) good_opened
  good_nested a_type_inside kind = good_option grammar.typed_as (NestedGives a_type_inside) (type_start_of kind) good_type

  good_row : (part : Part) (kind : Kind) → PartFits part → GoodRow (grammar.row text part kind) (PartGives part)
  good_row grammar.Program kind ok = ((tt, λ m h. h), λ m h. (h, λ n k. k))
  good_row (grammar.Ending all) kind ok = good_ending all kind ok
  good_row (grammar.Ended all) kind ok = good_ended all kind ok
  good_row (grammar.Items line before) kind ok = good_items line before (begins_item kind) ok
  good_row (grammar.MoreItems line before) kind ok = good_items_end line before kind ok
  good_row grammar.Item kind ok = good_item kind
  good_row (grammar.Binding line name) kind ok = good_binding line name kind ok
  good_row (grammar.Literal line) kind ok = good_literal line
  good_row grammar.Parameters kind ok = good_parameters (begins_type kind)
  good_row (grammar.Groups before) kind ok = (λ m h. h, λ m h. λ n named. ((h, and_named before _ ok named h), λ o k. k))
  good_row (grammar.MoreGroups of_last before) kind ok = good_more_groups of_last before kind ok.0 ok.1
  good_row (grammar.NextGroup of_last before) kind ok = good_next_group of_last before kind ok.0 ok.1
  good_row grammar.Result kind ok = good_result kind
  good_row grammar.ParameterTypes kind ok = good_parameter_types (begins_type kind)
  good_row (grammar.MoreTypes before) kind ok = good_more_types before kind ok
  good_row (grammar.Choice line c) kind ok = good_choice line c kind ok
  good_row (grammar.Until line a) kind ok = good_until line a kind ok
  good_row (grammar.Test line a) kind ok = λ s _. (λ m h. h, λ m h. ((ok, h), λ n k. k))
  good_row (grammar.Between line a c) kind ok = good_between line a c kind ok.0 ok.1
  good_row (grammar.Step line name a b) kind ok = good_step line name a b kind ok.0 ok.1 ok.2
  good_row (grammar.Body line name a b c) kind ok = λ s _. (λ m h. h, λ m h. (ok.0, ok.1, ok.2, ok.3, h))
  good_row (grammar.Cases line e before) kind ok = good_cases line e before kind ok.0 ok.1
  good_row (grammar.Labels line e before labels) kind ok = good_labels line e before labels kind ok.0 ok.1 ok.2
  good_row grammar.Written kind ok = (λ m h. h, λ m h. (h, λ n k. k))
  good_row (grammar.Width e) kind ok = good_width e kind ok
  good_row (grammar.MoreWritten line before) kind ok = good_more_written line before kind ok
  good_row (grammar.Assignment left) kind ok = good_assignment left kind ok
  good_row (grammar.Chain level) kind ok = good_chain level
  good_row (grammar.MoreChain level left) kind ok = good_more_chain level left kind (operation_of level kind) ok
  good_row grammar.Relative kind ok = good_relative kind
  good_row grammar.Compared kind ok = ((tt, λ m h. h), λ m h. (h, λ n k. k))
  good_row (grammar.Comparison left) kind ok = good_comparison left kind (relating_of kind) ok
  good_row grammar.Factor kind ok = good_factor kind
  good_row grammar.Application kind ok = ((tt, λ m h. h), λ m h. (h, λ n k. k))
  good_row (grammar.Applied f) kind ok = good_applied f kind ok
  good_row (grammar.Arguments line f) kind ok = good_arguments line f kind ok
  good_row (grammar.SecondArgument line f first) kind ok = good_second line f first kind ok.0 ok.1
  good_row (grammar.MoreArguments line f before) kind ok = good_more_arguments line f before kind ok.0 ok.1
  good_row grammar.Primary kind ok = good_option (grammar.primary text kind) (PartGives grammar.Primary) (start_of kind) (good_primary kind)
  good_row (grammar.MoreElements line l t before) kind ok = good_more_elements line l t before kind ok.0 ok.1 ok.2

  -- what is read is such
  read : {symbols : List Symbol} {nesting from to : ℕ} {rule : Rule} {made : Made} → AllFit text symbols →
      Reads text symbols nesting rule from made to →
      (Is : Made → Type 0) → Good rule Is → Is made
  read fit reading.gives Is h = h
  read fit (reading.takes {from = from} {symbol = symbol} here same next) Is h =
      read fit next Is (h symbol (subst (λ k. FitsAs text k symbol.token) same (fit from symbol here)))
  read {symbols = symbols} fit (reading.goes {from = from} {part = part} {made = made} row next) Is h =
      h.1 made (read fit next (PartGives part) (subst (λ (o : Option Rule). GoodRow o (PartGives part)) row
      (good_row part (kind_at symbols from) h.0)))
  read {symbols = symbols} fit (reading.opens {from = from} {nested = nested} {made = made} row next) Is h =
      h made (read fit next (NestedGives nested) (subst (λ (o : Option Rule). GoodRow o (NestedGives nested)) row
      (good_nested nested (kind_at symbols from))))
  read fit (reading.joins {first = first} {one = one} earlier later) Is h = read fit later Is (h.1 one (read fit earlier (Gives first) h.0))

-- the leaves of the tree of a text fit
pub leaves_fit : (text : List ℕ) (tokens : List Token) (tree : Phrase) → HasTokens text tokens → ReadsAs text tokens tree → LeavesFit tree
leaves_fit text tokens tree scans reads = read text (symbols_fit scans) reads.program (λ made. LeavesFit (the_clause made)) (tt, λ m h. h)
