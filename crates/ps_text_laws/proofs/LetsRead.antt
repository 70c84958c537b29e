-- In what the grammar reads each `let` is an item of a sequence.
use Rattle.std.proofs.Common.{ℕ, Bool, true, false, List, refl, subst}
use Rattle.std.specs.Prelude.{Option, Some, None, option_map}
use Rattle.ps_parse.specs.ps_base.TyView.{TyView, TyViews}
use Rattle.ps_parse.specs.ps_base.declared.line.Line.{Line}
use Rattle.ps_parse.specs.ps_symbols.declared.kind.Kind.{Kind}
use Rattle.ps_parse.specs.ps_symbols.declared.kind.Kind.TheVariants as kind
use Rattle.ps_parse.specs.ps_symbols.declared.kind.Level.{Level}
use Rattle.ps_parse.specs.ps_symbols.declared.kind.Level.TheVariants.{Disjunction, Conjunction, Sum, Product}
use Rattle.ps_parse.specs.ps_symbols.declared.kind.Operation.{Operation}
use Rattle.ps_parse.specs.ps_symbols.declared.kind.Operation.TheVariants as operation
use Rattle.ps_parse.specs.ps_symbols.declared.kind.Opening.{Opening}
use Rattle.ps_parse.specs.ps_symbols.declared.kind.Opening.TheVariants as opening
use Rattle.ps_parse.specs.ps_symbols.declared.kind.Relating.{Relating}
use Rattle.ps_parse.specs.ps_symbols.declared.kind.Relating.TheVariants.{Compares, IsOf}
use Rattle.ps_parse.specs.ps_symbols.declared.kind.Start.{Start}
use Rattle.ps_parse.specs.ps_symbols.declared.kind.Start.TheVariants as start
use Rattle.ps_parse.specs.ps_symbols.declared.kind.TypeStart.{TypeStart}
use Rattle.ps_parse.specs.ps_symbols.declared.kind.TypeStart.TheVariants as typed
use Rattle.ps_parse.specs.ps_symbols.declared.symbol.Symbol.{Symbol}
use Rattle.ps_parse.specs.ps_symbols.Kinds.{operation_of, relating_of, begins_item, begins_type, opening_of, start_of, type_start_of}
use Rattle.ps_parse.specs.ps_tree.Phrase.{NameAt, GroupAt, Phrase, at, Form, Phrases, none, more, MaybePhrase, absent, present, Arm, Arms, no_arms, more_arms, arm, WriteItem, item, WriteItems, no_items, more_items}
use Rattle.ps_parse.specs.ps_tree.Phrase as form
use Rattle.ps_parse.specs.ps_tree.Composing.{and_then, and_arm, and_item, joined}
use Rattle.ps_parse.specs.ps_reader.Grammar.{Made, a_clause, Part, Nested, a_clause_inside, a_type_inside, Rule, Give, Take, Go, Open, Then, the_clause, the_item}
use Rattle.ps_parse.specs.ps_reader.Grammar as grammar
use Rattle.ps_parse.specs.ps_reader.Reading.{Reads, kind_at}
use Rattle.ps_parse.specs.ps_reader.Reading as reading
use Rattle.ps_parse.specs.Program.{ReadsAs}
use Rattle.ps_parse.specs.ps_scan.declared.token.Token.{Token}
use Rattle.ps_typing_laws.specs.ps_typing.Items.{LetsAreItems, LetsStand, LetsStandInAll, LetsStandInMaybe, LetsStandInArms, LetsStandInWritten}

abbrev Stands : Phrase → Type 0
Stands clause = LetsStand false clause

-- what a part gives, and what is so of what a part goes on after
abbrev PartGives : Part → Made → Type 0
PartGives grammar.Item made = LetsStand true (the_clause made)
PartGives (grammar.Binding line name) made = LetsStand true (the_clause made)
PartGives grammar.Written made = LetsStandInWritten (more_items (the_item made) no_items)
PartGives (grammar.Width e) made = LetsStandInWritten (more_items (the_item made) no_items)
PartGives grammar.Parameters made = Unit {0}
PartGives (grammar.Groups before) made = Unit {0}
PartGives (grammar.MoreGroups of_last before) made = Unit {0}
PartGives (grammar.NextGroup of_last before) made = Unit {0}
PartGives grammar.Result made = Unit {0}
PartGives grammar.ParameterTypes made = Unit {0}
PartGives (grammar.MoreTypes before) made = Unit {0}
PartGives other made = Stands (the_clause made)

abbrev PartStands : Part → Type 0
PartStands (grammar.Ending all) = Stands all
PartStands (grammar.Ended all) = Stands all
PartStands (grammar.Items line before) = LetsStandInAll true before
PartStands (grammar.MoreItems line before) = LetsStandInAll true before
PartStands (grammar.Choice line c) = Stands c
PartStands (grammar.Until line a) = Stands a
PartStands (grammar.Test line a) = Stands a
PartStands (grammar.Between line a c) = Stands a × Stands c
PartStands (grammar.Step line name a b) = Stands a × Stands b
PartStands (grammar.Body line name a b c) = Stands a × Stands b × LetsStandInMaybe c
PartStands (grammar.Cases line e before) = Stands e × LetsStandInArms before
PartStands (grammar.Labels line e before labels) = Stands e × LetsStandInArms before × LetsStandInAll false labels
PartStands (grammar.Width e) = Stands e
PartStands (grammar.MoreWritten line before) = LetsStandInWritten before
PartStands (grammar.Assignment left) = Stands left
PartStands (grammar.MoreChain level left) = Stands left
PartStands (grammar.Comparison left) = Stands left
PartStands (grammar.Applied f) = Stands f
PartStands (grammar.Arguments line f) = Stands f
PartStands (grammar.SecondArgument line f first) = Stands f × Stands first
PartStands (grammar.MoreArguments line f before) = Stands f × LetsStandInAll false before
PartStands (grammar.MoreElements line l t before) = Stands l × LetsStandInAll false before
PartStands other = Unit {0}

abbrev NestedGives : Nested → Made → Type 0
NestedGives a_clause_inside made = Stands (the_clause made)
NestedGives a_type_inside made = Unit {0}

abbrev Gives : Rule → Made → Type 0
Gives (Go part) made = PartGives part made
Gives (Open nested) made = NestedGives nested made
Gives other made = Unit {0}

-- whatever a rule is read as is such
abbrev Good : Rule → (Made → Type 0) → Type 0
Good (Give made) Is = Is made
Good (Take kind next) Is = (symbol : Symbol) → Good (next symbol) Is
Good (Go part) Is = PartStands part × ((made : Made) → PartGives part made → Is made)
Good (Open nested) Is = (made : Made) → NestedGives nested made → Is made
Good (Then first next) Is = Good first (Gives first) × ((made : Made) → Gives first made → Good (next made) Is)

abbrev GoodRow : Option Rule → (Made → Type 0) → Type 0
GoodRow None Is = Unit {0}
GoodRow (Some rule) Is = Good rule Is

as_item : (clause : Phrase) → Stands clause → LetsStand true clause
as_item (at (form.Let name variable e) line) h = (refl, h.1)
as_item (at other line) h = h

and_clause : (is_item : Bool) (before : Phrases) (last : Phrase) → LetsStandInAll is_item before → LetsStand is_item last →
    LetsStandInAll is_item (and_then before last)
and_clause is_item none last h k = (k, tt)
and_clause is_item (more first rest) last h k = (h.0, and_clause is_item rest last h.1 k)

and_one_arm : (before : Arms) (labels : Phrases) (a : Phrase) → LetsStandInArms before → LetsStandInAll false labels → Stands a →
    LetsStandInArms (and_arm before (arm labels a))
and_one_arm no_arms labels a h k l = (k, l, tt)
and_one_arm (more_arms (arm others b) rest) labels a h k l = (h.0, h.1, and_one_arm rest labels a h.2 k l)

and_one_item : (before : WriteItems) (last : WriteItem) → LetsStandInWritten before → LetsStandInWritten (more_items last no_items) →
    LetsStandInWritten (and_item before last)
and_one_item no_items last h k = k
and_one_item (more_items (item e w line) rest) last h k = (h.0, h.1, and_one_item rest last h.2 k)

both_joined : (operation : Operation) (a b : Phrase) (line : Line) → Stands a → Stands b → Stands (joined operation a b line)
both_joined operation.Or a b line h k = (h, k)
both_joined other a b line h k = (h, k)

-- The rows of the grammar: each is good where what its part goes on after stands.
good_ending : (all : Phrase) (kind : Kind) → Stands all → GoodRow (grammar.ending all kind) (λ made. Stands (the_clause made))
good_ending all kind.Question ok = λ s. (ok, λ m h. h)
good_ending all kind.EndOfText ok = ok
good_ending all other ok = tt

good_ended : (all : Phrase) (kind : Kind) → Stands all → GoodRow (grammar.ended all kind) (λ made. Stands (the_clause made))
good_ended all kind.EndOfText ok = ok
good_ended all other ok = tt

good_items : (line : Line) (before : Phrases) (begins : Bool) → LetsStandInAll true before →
    Good (grammar.items line before begins) (λ made. Stands (the_clause made))
good_items line before true ok = ((tt, λ m h. h), λ m h. (and_clause true before (the_clause m) ok h, λ n k. k))
good_items line before false ok = (ok, λ m h. h)

good_items_end : (line : Line) (before : Phrases) (kind : Kind) → LetsStandInAll true before →
    Good (grammar.items_end line before kind) (λ made. Stands (the_clause made))
good_items_end line before kind.Semicolon ok = λ s. (ok, λ m h. h)
good_items_end line before other ok = ok

good_item : (text : List ℕ) (kind : Kind) → Good (grammar.one_item text kind) (λ made. LetsStand true (the_clause made))
good_item text kind.Let = λ w n. (tt, λ m h. h)
good_item text kind.Structure = λ w n s. ((tt, λ m h. tt), λ m h. λ t. tt)
good_item text kind.Procedure = λ w n. ((tt, λ m h. h), λ m h. (refl, h))
good_item text other = λ m h. as_item (the_clause m) h

good_binding : (line : Line) (name : NameAt) (kind : Kind) → GoodRow (grammar.binding line name kind) (λ made. LetsStand true (the_clause made))
good_binding line name kind.Equals = λ s. (λ m h. h, λ m h. (refl, h))
good_binding line name kind.Becomes = λ s. (λ m h. h, λ m h. (refl, h))
good_binding line name other = tt

good_literal : (line : Line) → Good (grammar.literal line) (λ made. Stands (the_clause made))
good_literal line = λ s. ((tt, λ m h. tt), λ m h. ((tt, λ n k. tt), λ n k. λ t u. (λ o l. l, λ o l. l)))

good_parameters : (begins : Bool) → Good (grammar.parameters begins) (λ made. Unit {0})
good_parameters true = (tt, λ m h. tt)
good_parameters false = tt

good_more_groups : (of_last : TyView) (before : List GroupAt) (kind : Kind) → Good (grammar.more_groups of_last before kind) (λ made. Unit {0})
good_more_groups of_last before kind.Comma = λ s. (tt, λ m h. tt)
good_more_groups of_last before kind.Semicolon = λ s. (tt, λ m h. tt)
good_more_groups of_last before other = tt

good_next_group : (text : List ℕ) (of_last : TyView) (before : List GroupAt) (kind : Kind) →
    Good (grammar.next_group text of_last before kind) (λ made. Unit {0})
good_next_group text of_last before kind.Name = λ n. (tt, λ m h. tt)
good_next_group text of_last before other = (tt, λ m h. tt)

good_result : (kind : Kind) → Good (grammar.result kind) (λ made. Unit {0})
good_result kind.Arrow = λ s m h. tt
good_result other = tt

good_type : (t : TypeStart) → Good (grammar.typed_as t) (λ made. Unit {0})
good_type typed.Vector = λ s. (λ m h. tt, λ m h. tt)
good_type typed.Proc = λ s t. ((tt, λ m h. tt), λ m h. ((tt, λ n k. tt), λ n k. λ u. tt))
good_type other = λ s. tt

good_parameter_types : (begins : Bool) → Good (grammar.parameter_types begins) (λ made. Unit {0})
good_parameter_types true = (λ m h. tt, λ m h. (tt, λ n k. tt))
good_parameter_types false = tt

good_more_types : (before : TyViews) (kind : Kind) → Good (grammar.more_types before kind) (λ made. Unit {0})
good_more_types before kind.Comma = λ s. (λ m h. tt, λ m h. (tt, λ n k. tt))
good_more_types before other = tt

good_choice : (line : Line) (c : Phrase) (kind : Kind) → Stands c → GoodRow (grammar.choice line c kind) (λ made. Stands (the_clause made))
good_choice line c kind.Do ok = λ s. (λ m h. h, λ m h. (ok, h))
good_choice line c kind.Then ok = λ s. (λ m h. h, λ m h. λ t. (λ n k. k, λ n k. (ok, h, k)))
good_choice line c other ok = tt

good_until : (line : Line) (a : Phrase) (kind : Kind) → Stands a → Good (grammar.until line a kind) (λ made. Stands (the_clause made))
good_until line a kind.Semicolon ok = λ s. (ok, λ m h. h)
good_until line a other ok = (ok, λ m h. h)

good_between : (line : Line) (a c : Phrase) (kind : Kind) → Stands a → Stands c → Good (grammar.between line a c kind) (λ made. Stands (the_clause made))
good_between line a c kind.Do ok ok' = λ s. (λ m h. h, λ m h. (ok, ok', h))
good_between line a c other ok ok' = (ok, ok', tt)

good_step : (line : Line) (name : NameAt) (a b : Phrase) (kind : Kind) → Stands a → Stands b →
    Good (grammar.step line name a b kind) (λ made. Stands (the_clause made))
good_step line name a b kind.By ok ok' = λ s. (λ m h. h, λ m h. ((ok, ok', h), λ n k. k))
good_step line name a b other ok ok' = ((ok, ok', tt), λ m h. h)

good_cases : (line : Line) (e : Phrase) (before : Arms) (kind : Kind) → Stands e → LetsStandInArms before →
    Good (grammar.cases line e before kind) (λ made. Stands (the_clause made))
good_cases line e before kind.Default ok arms = λ s t. (λ m h. h, λ m h. (ok, arms, h))
good_cases line e before other ok arms = (λ m h. h, λ m h. ((ok, arms, (h, tt)), λ n k. k))

good_labels : (line : Line) (e : Phrase) (before : Arms) (labels : Phrases) (kind : Kind) → Stands e → LetsStandInArms before →
    LetsStandInAll false labels → Good (grammar.labels line e before labels kind) (λ made. Stands (the_clause made))
good_labels line e before labels kind.Comma ok arms all = λ s. (λ m h. h, λ m h. ((ok, arms, and_clause false labels (the_clause m) all h), λ n k. k))
good_labels line e before labels other ok arms all = λ s. (λ m h. h, λ m h. λ t. ((ok, and_one_arm before labels (the_clause m) arms all h), λ n k. k))

good_width : (e : Phrase) (kind : Kind) → Stands e → Good (grammar.width e kind) (λ made. LetsStandInWritten (more_items (the_item made) no_items))
good_width e kind.Colon ok = λ s. (λ m h. h, λ m h. (ok, h, tt))
good_width e other ok = (ok, tt, tt)

good_more_written : (line : Line) (before : WriteItems) (kind : Kind) → LetsStandInWritten before →
    Good (grammar.more_written line before kind) (λ made. Stands (the_clause made))
good_more_written line before kind.Comma ok = λ s. ((tt, λ m h. h), λ m h. (and_one_item before (the_item m) ok h, λ n k. k))
good_more_written line before other ok = ok

good_assignment : (left : Phrase) (kind : Kind) → Stands left → Good (grammar.assignment left kind) (λ made. Stands (the_clause made))
good_assignment left kind.Becomes ok = λ s. (λ m h. h, λ m h. (ok, h))
good_assignment left other ok = ok

good_operand : (level : Level) → PartStands (grammar.operand level) × ((made : Made) → PartGives (grammar.operand level) made → Stands (the_clause made))
good_operand Disjunction = (tt, λ m h. h)
good_operand Conjunction = (tt, λ m h. h)
good_operand Sum = (tt, λ m h. h)
good_operand Product = (tt, λ m h. h)

good_chain : (level : Level) → Good (Then (Go (grammar.operand level)) (λ made. Go (grammar.MoreChain level (the_clause made))))
    (λ made. Stands (the_clause made))
good_chain level = (((good_operand level).0, λ m h. h), λ m h. ((good_operand level).1 m h, λ n k. k))

good_more_chain : (level : Level) (left : Phrase) (kind : Kind) (o : Option Operation) → Stands left →
    Good (grammar.more_chain level left kind o) (λ made. Stands (the_clause made))
good_more_chain level left kind (Some operation) ok = λ s.
    (((good_operand level).0, λ m h. h), λ m h. (both_joined operation left (the_clause m) _ ok ((good_operand level).1 m h), λ n k. k))
good_more_chain level left kind None ok = ok

good_relative : (kind : Kind) → Good (grammar.relative kind) (λ made. Stands (the_clause made))
good_relative kind.Tilde = λ s. ((tt, λ m h. h), λ m h. h)
good_relative other = (tt, λ m h. h)

good_comparison : (text : List ℕ) (left : Phrase) (sign : Kind) (o : Option Relating) → Stands left →
    Good (grammar.comparison text left sign o) (λ made. Stands (the_clause made))
good_comparison text left sign (Some (Compares op)) ok = λ s. ((tt, λ m h. h), λ m h. (ok, h))
good_comparison text left sign (Some (IsOf negated)) ok = λ s n. ok
good_comparison text left sign None ok = ok

good_factor : (kind : Kind) → Good (grammar.factor kind) (λ made. Stands (the_clause made))
good_factor kind.Plus = λ s. ((tt, λ m h. h), λ m h. h)
good_factor kind.Minus = λ s. ((tt, λ m h. h), λ m h. h)
good_factor other = (tt, λ m h. h)

good_applied : (f : Phrase) (kind : Kind) → Stands f → Good (grammar.applied f kind) (λ made. Stands (the_clause made))
good_applied f kind.OpenRound ok = λ s. ((ok, λ m h. h), λ m h. (h, λ n k. k))
good_applied f other ok = ok

good_arguments : (line : Line) (f : Phrase) (kind : Kind) → Stands f → Good (grammar.arguments line f kind) (λ made. Stands (the_clause made))
good_arguments line f kind.CloseRound ok = λ s. (ok, tt)
good_arguments line f other ok = (λ m h. h, λ m h. ((ok, h), λ n k. k))

good_second : (line : Line) (f first : Phrase) (kind : Kind) → Stands f → Stands first →
    Good (grammar.second_argument line f first kind) (λ made. Stands (the_clause made))
good_second line f first kind.Bar ok ok' = λ s. (λ m h. h, λ m h. λ t. (ok, ok', h))
good_second line f first other ok ok' = ((ok, (ok', tt)), λ m h. h)

good_more_arguments : (line : Line) (f : Phrase) (before : Phrases) (kind : Kind) → Stands f → LetsStandInAll false before →
    Good (grammar.more_arguments line f before kind) (λ made. Stands (the_clause made))
good_more_arguments line f before kind.Comma ok all = λ s. (λ m h. h, λ m h. ((ok, and_clause false before (the_clause m) all h), λ n k. k))
good_more_arguments line f before other ok all = λ s. (ok, all)

good_primary : (text : List ℕ) (kind : Kind) (s : Start) → Good (grammar.primary text kind s) (λ made. Stands (the_clause made))
good_primary text kind start.Name = λ s. tt
good_primary text kind start.Int = λ s. tt
good_primary text kind start.Text = λ s. tt
good_primary text kind (start.Flag value) = λ s. tt
good_primary text kind start.Nil = λ s. tt
good_primary text kind start.Round = λ s. (λ m h. h, λ m h. λ t. h)
good_primary text kind (start.Block last) = λ s. ((tt, λ m h. h), λ m h. λ t. h)
good_primary text kind (start.Bound upper) = λ s t. (λ m h. h, λ m h. λ u. h)
good_primary text kind start.Elements = λ s. (λ m h. h, λ m h. λ t. (λ n k. k, λ n k. λ u. (λ o l. l, λ o l. ((h, (l, tt)), λ p q. q))))

good_more_elements : (line : Line) (l : Phrase) (t : TyView) (before : Phrases) (kind : Kind) → Stands l → LetsStandInAll false before →
    Good (grammar.more_elements line l t before kind) (λ made. Stands (the_clause made))
good_more_elements line l t before kind.Comma ok all = λ s. (λ m h. h, λ m h. ((ok, and_clause false before (the_clause m) all h), λ n k. k))
good_more_elements line l t before other ok all = λ s. (ok, all)

good_opened : (text : List ℕ) (o : Opening) → Good (grammar.opened text o) (λ made. Stands (the_clause made))
good_opened text opening.Condition = λ w. (λ m h. h, λ m h. (h, λ n k. k))
good_opened text opening.Repetition = λ w. (λ m h. h, λ m h. λ s. (λ n k. k, λ n k. (h, k)))
good_opened text opening.Repeating = λ w. (λ m h. h, λ m h. (h, λ n k. k))
good_opened text opening.Counting = λ w n s. (λ m h. h, λ m h. λ t. (λ o k. k, λ o k. ((h, k), λ p q. q)))
good_opened text opening.Choosing = λ w. (λ m h. h, λ m h. λ s. ((h, tt), λ n k. k))
good_opened text opening.Writing = λ w. ((tt, λ m h. h), λ m h. (h, λ n k. k))
good_opened text opening.Aborting = λ w. tt
good_opened text opening.Procedure = λ w. (tt, λ m h. h)
good_opened text opening.Filling = λ w. (λ m h. h, λ m h. λ s. (λ n k. k, λ n k. λ t. (λ o l. l, λ o l. (h, k, l))))
good_opened text opening.Expression = ((tt, λ m h. h), λ m h. (h, λ n k. k))

good_option : {A : Type 0} (f : A → Rule) (Is : Made → Type 0) (o : Option A) → ((a : A) → Good (f a) Is) → GoodRow (option_map f o) Is
good_option f Is None h = tt
good_option f Is (Some a) h = h a

good_nested : (text : List ℕ) (nested : Nested) (kind : Kind) → GoodRow (grammar.inside text nested kind) (NestedGives nested)
good_nested text a_clause_inside kind = good_option (grammar.opened text) (NestedGives a_clause_inside) (opening_of kind) (good_opened text)
good_nested text a_type_inside kind = good_option grammar.typed_as (NestedGives a_type_inside) (type_start_of kind) good_type

good_row : (text : List ℕ) (part : Part) (kind : Kind) → PartStands part → GoodRow (grammar.row text part kind) (PartGives part)
good_row text grammar.Program kind ok = ((tt, λ m h. h), λ m h. (h, λ n k. k))
good_row text (grammar.Ending all) kind ok = good_ending all kind ok
good_row text (grammar.Ended all) kind ok = good_ended all kind ok
good_row text (grammar.Items line before) kind ok = good_items line before (begins_item kind) ok
good_row text (grammar.MoreItems line before) kind ok = good_items_end line before kind ok
good_row text grammar.Item kind ok = good_item text kind
good_row text (grammar.Binding line name) kind ok = good_binding line name kind
good_row text (grammar.Literal line) kind ok = good_literal line
good_row text grammar.Parameters kind ok = good_parameters (begins_type kind)
good_row text (grammar.Groups before) kind ok = (λ m h. tt, λ m h. λ n. (tt, λ o k. tt))
good_row text (grammar.MoreGroups of_last before) kind ok = good_more_groups of_last before kind
good_row text (grammar.NextGroup of_last before) kind ok = good_next_group text of_last before kind
good_row text grammar.Result kind ok = good_result kind
good_row text grammar.ParameterTypes kind ok = good_parameter_types (begins_type kind)
good_row text (grammar.MoreTypes before) kind ok = good_more_types before kind
good_row text (grammar.Choice line c) kind ok = good_choice line c kind ok
good_row text (grammar.Until line a) kind ok = good_until line a kind ok
good_row text (grammar.Test line a) kind ok = λ s. (λ m h. h, λ m h. ((ok, h), λ n k. k))
good_row text (grammar.Between line a c) kind ok = good_between line a c kind ok.0 ok.1
good_row text (grammar.Step line name a b) kind ok = good_step line name a b kind ok.0 ok.1
good_row text (grammar.Body line name a b c) kind ok = λ s. (λ m h. h, λ m h. (ok.0, ok.1, ok.2, h))
good_row text (grammar.Cases line e before) kind ok = good_cases line e before kind ok.0 ok.1
good_row text (grammar.Labels line e before labels) kind ok = good_labels line e before labels kind ok.0 ok.1 ok.2
good_row text grammar.Written kind ok = (λ m h. h, λ m h. (h, λ n k. k))
good_row text (grammar.Width e) kind ok = good_width e kind ok
good_row text (grammar.MoreWritten line before) kind ok = good_more_written line before kind ok
good_row text (grammar.Assignment left) kind ok = good_assignment left kind ok
good_row text (grammar.Chain level) kind ok = good_chain level
good_row text (grammar.MoreChain level left) kind ok = good_more_chain level left kind (operation_of level kind) ok
good_row text grammar.Relative kind ok = good_relative kind
good_row text grammar.Compared kind ok = ((tt, λ m h. h), λ m h. (h, λ n k. k))
good_row text (grammar.Comparison left) kind ok = good_comparison text left kind (relating_of kind) ok
good_row text grammar.Factor kind ok = good_factor kind
good_row text grammar.Application kind ok = ((tt, λ m h. h), λ m h. (h, λ n k. k))
good_row text (grammar.Applied f) kind ok = good_applied f kind ok
good_row text (grammar.Arguments line f) kind ok = good_arguments line f kind ok
good_row text (grammar.SecondArgument line f first) kind ok = good_second line f first kind ok.0 ok.1
good_row text (grammar.MoreArguments line f before) kind ok = good_more_arguments line f before kind ok.0 ok.1
good_row text grammar.Primary kind ok = good_option (grammar.primary text kind) (PartGives grammar.Primary) (start_of kind) (good_primary text kind)
good_row text (grammar.MoreElements line l t before) kind ok = good_more_elements line l t before kind ok.0 ok.1

-- what is read is such
read : {text : List ℕ} {symbols : List Symbol} {nesting from to : ℕ} {rule : Rule} {made : Made} → Reads text symbols nesting rule from made to →
    (Is : Made → Type 0) → Good rule Is → Is made
read reading.gives Is h = h
read (reading.takes {symbol = symbol} here same next) Is h = read next Is (h symbol)
read {text = text} {symbols = symbols} (reading.goes {from = from} {part = part} {made = made} row next) Is h =
    h.1 made (read next (PartGives part) (subst (λ (o : Option Rule). GoodRow o (PartGives part)) row (good_row text part (kind_at symbols from) h.0)))
read {text = text} {symbols = symbols} (reading.opens {from = from} {nested = nested} {made = made} row next) Is h =
    h made (read next (NestedGives nested) (subst (λ (o : Option Rule). GoodRow o (NestedGives nested)) row (good_nested text nested (kind_at symbols from))))
read (reading.joins {first = first} {one = one} earlier later) Is h = read later Is (h.1 one (read earlier (Gives first) h.0))

pub lets_are_items : (text : List ℕ) (tokens : List Token) (tree : Phrase) → ReadsAs text tokens tree → LetsAreItems tree
lets_are_items text tokens tree reads = read reads.program (λ made. Stands (the_clause made)) (tt, λ m h. h)
