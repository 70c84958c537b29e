-- What a clause weighs that the grammar reads from one place to another: at most twenty times the symbols between them.
use Rattle.std.proofs.Common.{◌≡◌, ℕ, pos, ◌+◌, ◌*◌, ◌≤◌, Bool, true, false, List, refl, subst, arith}
use Rattle.std.specs.Prelude.{Option, Some, None, option_map, slice_get}
use Rattle.ps_unit_laws.specs.ps_base.TyView.{TyView, TyViews}
use Rattle.ps_unit_laws.specs.ps_base.declared.line.Line.{Line}
use Rattle.ps_leaf_laws.specs.ps_symbols.declared.kind.Kind.{Kind}
use Rattle.ps_leaf_laws.specs.ps_symbols.declared.kind.Kind.TheVariants as kind
use Rattle.ps_leaf_laws.specs.ps_symbols.declared.kind.Level.{Level}
use Rattle.ps_leaf_laws.specs.ps_symbols.declared.kind.Level.TheVariants.{Disjunction, Conjunction, Sum, Product}
use Rattle.ps_leaf_laws.specs.ps_symbols.declared.kind.Operation.{Operation}
use Rattle.ps_leaf_laws.specs.ps_symbols.declared.kind.Operation.TheVariants as operation
use Rattle.ps_leaf_laws.specs.ps_symbols.declared.kind.Opening.{Opening}
use Rattle.ps_leaf_laws.specs.ps_symbols.declared.kind.Opening.TheVariants as opening
use Rattle.ps_leaf_laws.specs.ps_symbols.declared.kind.Relating.{Relating}
use Rattle.ps_leaf_laws.specs.ps_symbols.declared.kind.Relating.TheVariants.{Compares, IsOf}
use Rattle.ps_leaf_laws.specs.ps_symbols.declared.kind.Start.{Start}
use Rattle.ps_leaf_laws.specs.ps_symbols.declared.kind.Start.TheVariants as start
use Rattle.ps_leaf_laws.specs.ps_symbols.declared.kind.TypeStart.{TypeStart}
use Rattle.ps_leaf_laws.specs.ps_symbols.declared.kind.TypeStart.TheVariants as typed
use Rattle.ps_leaf_laws.specs.ps_symbols.declared.symbol.Symbol.{Symbol}
use Rattle.ps_leaf_laws.specs.ps_symbols.Kinds.{operation_of, relating_of, begins_item, begins_type, opening_of, start_of, type_start_of}
use Rattle.ps_leaf_laws.specs.ps_tree.Phrase.{NameAt, GroupAt, Phrase, Phrases, none, more, Arms, no_arms, more_arms, arm, WriteItem, WriteItems, no_items, more_items}
use Rattle.ps_leaf_laws.specs.ps_tree.Composing.{and_then, and_arm, and_item, joined}
use Rattle.ps_leaf_laws.specs.ps_reader.Grammar.{Made, a_clause, Part, Nested, a_clause_inside, a_type_inside, Rule, Give, Take, Go, Open, Then, the_clause, the_item, line_in}
use Rattle.ps_leaf_laws.specs.ps_reader.Grammar as grammar
use Rattle.ps_leaf_laws.specs.ps_reader.Reading.{Reads, kind_at}
use Rattle.ps_leaf_laws.specs.ps_reader.Reading as reading
use Rattle.ps_leaf_laws.specs.ps_scan.declared.token.Token.{Token}
use Rattle.ps_leaf_laws.specs.ps_scan.Tokens.{int_value, line_of}
use Rattle.ps_text_units.proofs.Weights.{over, over_int, over_small, weigh, weigh_all, weigh_maybe, weigh_arms, weigh_item, weigh_written, top}

-- what is so of each symbol: its line weighs nothing, and the value of an int neither
abbrev pub IntLight : List ℕ → Kind → Token → Type 0
IntLight text kind.Int token = over_int (pos (int_value text token)) ≡ 0
IntLight text other token = Unit {0}

abbrev clausal : Made → ℕ
clausal made = 10 + top (the_clause made)

abbrev as_item : Made → ℕ
as_item made = 5 + weigh_item (the_item made)

abbrev nothing : Made → ℕ
nothing made = 0

-- what is weighed of what a part gives, and what may be had of it before its first symbol
abbrev Weighs : Part → Made → ℕ
Weighs grammar.Written = as_item
Weighs (grammar.Width e) = as_item
Weighs grammar.Parameters = nothing
Weighs (grammar.Groups before) = nothing
Weighs (grammar.MoreGroups of_last before) = nothing
Weighs (grammar.NextGroup of_last before) = nothing
Weighs grammar.Result = nothing
Weighs grammar.ParameterTypes = nothing
Weighs (grammar.MoreTypes before) = nothing
Weighs other = clausal

abbrev twice : Line → ℕ
twice line = over line.0 + over line.0

abbrev Had : Part → ℕ
Had grammar.Program = 11
Had (grammar.Ending all) = 10 + top all
Had (grammar.Ended all) = 10 + top all
Had (grammar.Items line before) = 11 + twice line + weigh_all before
Had (grammar.MoreItems line before) = 11 + twice line + weigh_all before
Had (grammar.Binding line name) = 10 + twice line
Had (grammar.Literal line) = 10 + twice line
Had (grammar.Choice line c) = 10 + twice line + weigh c
Had (grammar.Until line a) = 10 + twice line + weigh a
Had (grammar.Test line a) = 10 + twice line + weigh a
Had (grammar.Between line a c) = 20 + twice line + weigh a + weigh c
Had (grammar.Step line name a b) = 20 + twice line + weigh a + weigh b
Had (grammar.Body line name a b c) = 10 + twice line + weigh a + weigh b + weigh_maybe c
Had (grammar.Cases line e before) = 10 + twice line + weigh e + weigh_arms before
Had (grammar.Labels line e before labels) = 10 + twice line + weigh e + weigh_arms before + weigh_all labels
Had (grammar.Width e) = 10 + top e
Had (grammar.MoreWritten line before) = 11 + twice line + weigh_written before
Had (grammar.Assignment left) = 10 + top left
Had (grammar.MoreChain level left) = 10 + top left
Had (grammar.Comparison left) = 10 + top left
Had (grammar.Applied f) = 10 + top f
Had (grammar.Arguments line f) = 11 + twice line + weigh f
Had (grammar.SecondArgument line f first) = 12 + twice line + weigh f + weigh first
Had (grammar.MoreArguments line f before) = 11 + twice line + weigh f + weigh_all before
Had (grammar.MoreElements line l t before) = 11 + twice line + weigh l + weigh_all before
Had other = 0

abbrev NestedWeighs : Nested → Made → ℕ
NestedWeighs a_clause_inside = clausal
NestedWeighs a_type_inside = nothing

abbrev weighed : Rule → Made → ℕ
weighed (Go part) = Weighs part
weighed (Open nested) = NestedWeighs nested
weighed other = nothing

abbrev need : Rule → ℕ
need (Go part) = Had part
need other = 0

keep : {n : ℕ} → n ≤ n
keep = omega arith

and_clause : (before : Phrases) (last : Phrase) → weigh_all (and_then before last) ≡ weigh_all before + 1 + weigh last
and_clause none last = omega arith
and_clause (more first rest) last = let h = and_clause rest last in omega arith

and_one_arm : (before : Arms) (labels : Phrases) (a : Phrase) → weigh_arms (and_arm before (arm labels a)) ≡ weigh_arms before + weigh_all labels + weigh a
and_one_arm no_arms labels a = omega arith
and_one_arm (more_arms (arm others b) rest) labels a = let h = and_one_arm rest labels a in omega arith

and_one_item : (before : WriteItems) (last : WriteItem) → weigh_written (and_item before last) ≡ weigh_written before + weigh_item last
and_one_item no_items last = omega arith
and_one_item (more_items first rest) last = let h = and_one_item rest last in omega arith

both_joined : (operation : Operation) (a b : Phrase) (line : Line) → top (joined operation a b line) ≤ 1 + twice line + weigh a + weigh b
both_joined operation.Or a b line = omega arith
both_joined operation.And a b line = omega arith
both_joined operation.Join a b line = omega arith
both_joined (operation.Arith op) a b line = omega arith

module _ (text : List ℕ) where
  -- Whatever a rule is read as weighs no more than what is had before it and twenty for each symbol.
  abbrev Costs : Rule → (Made → ℕ) → ℕ → Type 0
  Costs (Give made) w n = w made ≤ n
  Costs (Take kind next) w n =
      (symbol : Symbol) → over symbol.token.line.0 ≡ 0 → IntLight text kind symbol.token → (k : ℕ) → n + 20 ≤ k → Costs (next symbol) w k
  Costs (Go part) w n = (Had part ≤ n) × ((made : Made) → w made ≤ Weighs part made)
  Costs (Open nested) w n = (made : Made) → w made ≤ NestedWeighs nested made
  Costs (Then first next) w n =
      Costs first (weighed first) (need first) × ((made : Made) (k : ℕ) → n + weighed first made ≤ k + need first → Costs (next made) w k)

  abbrev RowCosts : Option Rule → (Made → ℕ) → ℕ → Type 0
  RowCosts None w n = Unit {0}
  RowCosts (Some rule) w n = Costs rule w n

  -- The rows of the grammar.
  cost_ending : (all : Phrase) (kind : Kind) → RowCosts (grammar.ending all kind) clausal (10 + top all)
  cost_ending all kind.Question = λ s z i k h. (omega arith, λ m. keep)
  cost_ending all kind.EndOfText = keep
  cost_ending all other = tt

  cost_ended : (all : Phrase) (kind : Kind) → RowCosts (grammar.ended all kind) clausal (10 + top all)
  cost_ended all kind.EndOfText = keep
  cost_ended all other = tt

  cost_items : (line : Line) (before : Phrases) (begins : Bool) →
      Costs (grammar.items line before begins) clausal (11 + twice line + weigh_all before)
  cost_items line before true = ((keep, λ m. keep), λ m k h. (let e = and_clause before (the_clause m) in omega arith, λ o. keep))
  cost_items line before false = (keep, λ m. keep)

  cost_items_end : (line : Line) (before : Phrases) (kind : Kind) →
      Costs (grammar.items_end line before kind) clausal (11 + twice line + weigh_all before)
  cost_items_end line before kind.Semicolon = λ s z i k h. (omega arith, λ m. keep)
  cost_items_end line before other = omega arith

  cost_item : (kind : Kind) → Costs (grammar.one_item text kind) clausal 0
  cost_item kind.Let = λ s z i k h s2 z2 i2 k2 h2. (omega arith, λ m. keep)
  cost_item kind.Structure = λ s z i k h s2 z2 i2 k2 h2 s3 z3 i3 k3 h3. ((keep, λ m. keep), λ m k4 h4 s5 z5 i5 k5 h5. omega arith)
  cost_item kind.Procedure = λ s z i k h s2 z2 i2 k2 h2. ((keep, λ m. keep), λ m k3 h3. omega arith)
  cost_item other = λ m. keep

  cost_binding : (line : Line) (name : NameAt) (kind : Kind) → RowCosts (grammar.binding line name kind) clausal (10 + twice line)
  cost_binding line name kind.Equals = λ s z i k h. (λ m. keep, λ m k2 h2. omega arith)
  cost_binding line name kind.Becomes = λ s z i k h. (λ m. keep, λ m k2 h2. omega arith)
  cost_binding line name other = tt

  cost_literal : (line : Line) → Costs (grammar.literal line) clausal (10 + twice line)
  cost_literal line = λ s z i k h. (
    (keep, λ m. keep),
    λ m k2 h2. (
      (keep, λ o. keep),
      λ o k3 h3 s4 z4 i4 k4 h4 s5 z5 i5 k5 h5. (λ p. keep, λ p k6 h6. omega arith),
    ),
  )

  cost_parameters : (begins : Bool) → Costs (grammar.parameters begins) nothing 0
  cost_parameters true = (keep, λ m. keep)
  cost_parameters false = keep

  cost_more_groups : (of_last : TyView) (before : List GroupAt) (kind : Kind) → Costs (grammar.more_groups of_last before kind) nothing 0
  cost_more_groups of_last before kind.Comma = λ s z i k h. (omega arith, λ m. keep)
  cost_more_groups of_last before kind.Semicolon = λ s z i k h. (omega arith, λ m. keep)
  cost_more_groups of_last before other = keep

  cost_next_group : (of_last : TyView) (before : List GroupAt) (kind : Kind) → Costs (grammar.next_group text of_last before kind) nothing 0
  cost_next_group of_last before kind.Name = λ s z i k h. (omega arith, λ m. keep)
  cost_next_group of_last before other = (keep, λ m. keep)

  cost_result : (kind : Kind) → Costs (grammar.result kind) nothing 0
  cost_result kind.Arrow = λ s z i k h m. keep
  cost_result other = keep

  cost_type : (t : TypeStart) → Costs (grammar.typed_as t) nothing 0
  cost_type typed.Vector = λ s z i k h. (λ m. keep, λ m k2 h2. omega arith)
  cost_type typed.Proc = λ s z i k h s2 z2 i2 k2 h2. ((keep, λ m. keep), λ m k3 h3. ((keep, λ o. keep), λ o k4 h4 s5 z5 i5 k5 h5. omega arith))
  cost_type other = λ s z i k h. omega arith

  cost_parameter_types : (begins : Bool) → Costs (grammar.parameter_types begins) nothing 0
  cost_parameter_types true = (λ m. keep, λ m k h. (omega arith, λ o. keep))
  cost_parameter_types false = keep

  cost_more_types : (before : TyViews) (kind : Kind) → Costs (grammar.more_types before kind) nothing 0
  cost_more_types before kind.Comma = λ s z i k h. (λ m. keep, λ m k2 h2. (omega arith, λ o. keep))
  cost_more_types before other = keep

  cost_choice : (line : Line) (c : Phrase) (kind : Kind) → RowCosts (grammar.choice line c kind) clausal (10 + twice line + weigh c)
  cost_choice line c kind.Do = λ s z i k h. (λ m. keep, λ m k2 h2. omega arith)
  cost_choice line c kind.Then = λ s z i k h. (λ m. keep, λ m k2 h2 s3 z3 i3 k3 h3. (λ o. keep, λ o k4 h4. omega arith))
  cost_choice line c other = tt

  cost_until : (line : Line) (a : Phrase) (kind : Kind) → Costs (grammar.until line a kind) clausal (10 + twice line + weigh a)
  cost_until line a kind.Semicolon = λ s z i k h. (omega arith, λ m. keep)
  cost_until line a other = (keep, λ m. keep)

  cost_between : (line : Line) (a c : Phrase) (kind : Kind) → Costs (grammar.between line a c kind) clausal (20 + twice line + weigh a + weigh c)
  cost_between line a c kind.Do = λ s z i k h. (λ m. keep, λ m k2 h2. omega arith)
  cost_between line a c other = omega arith

  cost_step : (line : Line) (name : NameAt) (a b : Phrase) (kind : Kind) →
      Costs (grammar.step line name a b kind) clausal (20 + twice line + weigh a + weigh b)
  cost_step line name a b kind.By = λ s z i k h. (λ m. keep, λ m k2 h2. (omega arith, λ o. keep))
  cost_step line name a b other = (omega arith, λ m. keep)

  cost_cases : (line : Line) (e : Phrase) (before : Arms) (kind : Kind) →
      Costs (grammar.cases line e before kind) clausal (10 + twice line + weigh e + weigh_arms before)
  cost_cases line e before kind.Default = λ s z i k h s2 z2 i2 k2 h2. (λ m. keep, λ m k3 h3. omega arith)
  cost_cases line e before other = (λ m. keep, λ m k h. (omega arith, λ o. keep))

  cost_labels : (line : Line) (e : Phrase) (before : Arms) (labels : Phrases) (kind : Kind) →
      Costs (grammar.labels line e before labels kind) clausal (10 + twice line + weigh e + weigh_arms before + weigh_all labels)
  cost_labels line e before labels kind.Comma = λ s z i k h.
      (λ m. keep, λ m k2 h2. (let e = and_clause labels (the_clause m) in omega arith, λ o. keep))
  cost_labels line e before labels other = λ s z i k h.
      (λ m. keep, λ m k2 h2 s3 z3 i3 k3 h3. (let e = and_one_arm before labels (the_clause m) in omega arith, λ o. keep))

  cost_width : (e : Phrase) (kind : Kind) → Costs (grammar.width e kind) as_item (10 + top e)
  cost_width e kind.Colon = λ s z i k h. (λ m. keep, λ m k2 h2. omega arith)
  cost_width e other = omega arith

  cost_more_written : (line : Line) (before : WriteItems) (kind : Kind) →
      Costs (grammar.more_written line before kind) clausal (11 + twice line + weigh_written before)
  cost_more_written line before kind.Comma = λ s z i k h.
      ((keep, λ m. keep), λ m k2 h2. (let e = and_one_item before (the_item m) in omega arith, λ o. keep))
  cost_more_written line before other = omega arith

  cost_assignment : (left : Phrase) (kind : Kind) → Costs (grammar.assignment left kind) clausal (10 + top left)
  cost_assignment left kind.Becomes = λ s z i k h. (λ m. keep, λ m k2 h2. omega arith)
  cost_assignment left other = keep

  cost_operand : (level : Level) → (Had (grammar.operand level) ≡ 0) × ((made : Made) → Weighs (grammar.operand level) made ≡ clausal made)
  cost_operand Disjunction = (refl, λ m. refl)
  cost_operand Conjunction = (refl, λ m. refl)
  cost_operand Sum = (refl, λ m. refl)
  cost_operand Product = (refl, λ m. refl)

  cost_chain : (level : Level) → Costs (Then (Go (grammar.operand level)) (λ made. Go (grammar.MoreChain level (the_clause made)))) clausal 0
  cost_chain level = (
    (keep, λ m. keep),
    λ m k h. (let e = (cost_operand level).0 in let f = (cost_operand level).1 m in omega arith, λ o. keep),
  )

  cost_more_chain : (level : Level) (left : Phrase) (kind : Kind) (o : Option Operation) →
      Costs (grammar.more_chain level left kind o) clausal (10 + top left)
  cost_more_chain level left kind (Some operation) = λ s z i k h. (
    (keep, λ m. keep),
    λ m k2 h2. (
      let e = (cost_operand level).0 in let f = (cost_operand level).1 m in
          let j = both_joined operation left (the_clause m) (grammar.line_at s) in omega arith,
      λ o. keep,
    ),
  )
  cost_more_chain level left kind None = keep

  cost_relative : (kind : Kind) → Costs (grammar.relative kind) clausal 0
  cost_relative kind.Tilde = λ s z i k h. ((keep, λ m. keep), λ m k2 h2. omega arith)
  cost_relative other = (keep, λ m. keep)

  cost_comparison : (left : Phrase) (sign : Kind) (o : Option Relating) → Costs (grammar.comparison text left sign o) clausal (10 + top left)
  cost_comparison left sign (Some (Compares op)) = λ s z i k h. ((keep, λ m. keep), λ m k2 h2. omega arith)
  cost_comparison left sign (Some (IsOf negated)) = λ s z i k h s2 z2 i2 k2 h2. omega arith
  cost_comparison left sign None = keep

  cost_factor : (kind : Kind) → Costs (grammar.factor kind) clausal 0
  cost_factor kind.Plus = λ s z i k h. ((keep, λ m. keep), λ m k2 h2. omega arith)
  cost_factor kind.Minus = λ s z i k h. ((keep, λ m. keep), λ m k2 h2. omega arith)
  cost_factor other = (keep, λ m. keep)

  cost_applied : (f : Phrase) (kind : Kind) → Costs (grammar.applied f kind) clausal (10 + top f)
  cost_applied f kind.OpenRound = λ s z i k h. ((keep, λ m. keep), λ m k2 h2. (omega arith, λ o. keep))
  cost_applied f other = keep

  cost_arguments : (line : Line) (f : Phrase) (kind : Kind) → Costs (grammar.arguments line f kind) clausal (11 + twice line + weigh f)
  cost_arguments line f kind.CloseRound = λ s z i k h. omega arith
  cost_arguments line f other = (λ m. keep, λ m k h. (omega arith, λ o. keep))

  cost_second : (line : Line) (f first : Phrase) (kind : Kind) →
      Costs (grammar.second_argument line f first kind) clausal (12 + twice line + weigh f + weigh first)
  cost_second line f first kind.Bar = λ s z i k h. (λ m. keep, λ m k2 h2 s3 z3 i3 k3 h3. omega arith)
  cost_second line f first other = (omega arith, λ m. keep)

  cost_more_arguments : (line : Line) (f : Phrase) (before : Phrases) (kind : Kind) →
      Costs (grammar.more_arguments line f before kind) clausal (11 + twice line + weigh f + weigh_all before)
  cost_more_arguments line f before kind.Comma = λ s z i k h.
      (λ m. keep, λ m k2 h2. (let e = and_clause before (the_clause m) in omega arith, λ o. keep))
  cost_more_arguments line f before other = λ s z i k h. omega arith

  cost_primary : (kind : Kind) (s : Start) → Costs (grammar.primary text kind s) clausal 0
  cost_primary kind start.Name = λ s z i k h. omega arith
  cost_primary kind start.Int = λ s z i k h. omega arith
  cost_primary kind start.Text = λ s z i k h. omega arith
  cost_primary kind (start.Flag value) = λ s z i k h. omega arith
  cost_primary kind start.Nil = λ s z i k h. omega arith
  cost_primary kind start.Round = λ s z i k h. (λ m. keep, λ m k2 h2 s3 z3 i3 k3 h3. omega arith)
  cost_primary kind (start.Block last) = λ s z i k h. ((keep, λ m. keep), λ m k2 h2 s3 z3 i3 k3 h3. omega arith)
  cost_primary kind (start.Bound upper) = λ s z i k h s2 z2 i2 k2 h2. (λ m. keep, λ m k3 h3 s4 z4 i4 k4 h4. omega arith)
  cost_primary kind start.Elements = λ s z i k h. (
    λ m. keep,
    λ m k2 h2 s3 z3 i3 k3 h3. (
      λ o. keep,
      λ o k4 h4 s5 z5 i5 k5 h5.
          (λ p. keep, λ p k6 h6. (omega arith, λ q. keep)),
    ),
  )

  cost_more_elements : (line : Line) (l : Phrase) (t : TyView) (before : Phrases) (kind : Kind) →
      Costs (grammar.more_elements line l t before kind) clausal (11 + twice line + weigh l + weigh_all before)
  cost_more_elements line l t before kind.Comma = λ s z i k h.
      (λ m. keep, λ m k2 h2. (let e = and_clause before (the_clause m) in omega arith, λ o. keep))
  cost_more_elements line l t before other = λ s z i k h. omega arith

  cost_opened : (o : Opening) → Costs (grammar.opened text o) clausal 0
  cost_opened opening.Condition = λ s z i k h. (λ m. keep, λ m k2 h2. (omega arith, λ o. keep))
  cost_opened opening.Repetition = λ s z i k h. (λ m. keep, λ m k2 h2 s3 z3 i3 k3 h3. (λ o. keep, λ o k4 h4. omega arith))
  cost_opened opening.Repeating = λ s z i k h. (λ m. keep, λ m k2 h2. (omega arith, λ o. keep))
  cost_opened opening.Counting = λ s z i k h s2 z2 i2 k2 h2 s3 z3 i3 k3 h3. (
    λ m. keep,
    λ m k4 h4 s5 z5 i5 k5 h5.
        (λ o. keep, λ o k6 h6. (omega arith, λ p. keep)),
  )
  cost_opened opening.Choosing = λ s z i k h. (λ m. keep, λ m k2 h2 s3 z3 i3 k3 h3. (omega arith, λ o. keep))
  cost_opened opening.Writing = λ s z i k h. ((keep, λ m. keep), λ m k2 h2. (omega arith, λ o. keep))
  cost_opened opening.Aborting = λ s z i k h. omega arith
  cost_opened opening.Procedure = λ s z i k h. (omega arith, λ m. keep)
  cost_opened opening.Filling = λ s z i k h. (λ m. keep, λ m k2 h2 s3 z3 i3 k3 h3. (λ o. keep, λ o k4 h4 s5 z5 i5 k5 h5. (λ p. keep, λ p k6 h6. omega arith)))
  cost_opened opening.Expression = ((keep, λ m. keep), λ m k h. (omega arith, λ o. keep))

  cost_option : {A : Type 0} (f : A → Rule) (w : Made → ℕ) (n : ℕ) (o : Option A) → ((a : A) → Costs (f a) w n) → RowCosts (option_map f o) w n
  cost_option f w n None h = tt
  cost_option f w n (Some a) h = h a

  cost_nested : (nested : Nested) (kind : Kind) → RowCosts (grammar.inside text nested kind) (NestedWeighs nested) 0
  cost_nested a_clause_inside kind = cost_option (grammar.opened text) (NestedWeighs a_clause_inside) 0 (opening_of kind) cost_opened
  cost_nested a_type_inside kind = cost_option grammar.typed_as (NestedWeighs a_type_inside) 0 (type_start_of kind) cost_type

  cost_row : (part : Part) (kind : Kind) → RowCosts (grammar.row text part kind) (Weighs part) (Had part)
  cost_row grammar.Program kind =
      let z : over (line_of 1).0 ≡ 0 = over_small 1 (omega arith) in ((omega arith, λ m. keep), λ m k h. (omega arith, λ o. keep))
  cost_row (grammar.Ending all) kind = cost_ending all kind
  cost_row (grammar.Ended all) kind = cost_ended all kind
  cost_row (grammar.Items line before) kind = cost_items line before (begins_item kind)
  cost_row (grammar.MoreItems line before) kind = cost_items_end line before kind
  cost_row grammar.Item kind = cost_item kind
  cost_row (grammar.Binding line name) kind = cost_binding line name kind
  cost_row (grammar.Literal line) kind = cost_literal line
  cost_row grammar.Parameters kind = cost_parameters (begins_type kind)
  cost_row (grammar.Groups before) kind = (λ m. keep, λ m k h s2 z2 i2 k2 h2. (omega arith, λ o. keep))
  cost_row (grammar.MoreGroups of_last before) kind = cost_more_groups of_last before kind
  cost_row (grammar.NextGroup of_last before) kind = cost_next_group of_last before kind
  cost_row grammar.Result kind = cost_result kind
  cost_row grammar.ParameterTypes kind = cost_parameter_types (begins_type kind)
  cost_row (grammar.MoreTypes before) kind = cost_more_types before kind
  cost_row (grammar.Choice line c) kind = cost_choice line c kind
  cost_row (grammar.Until line a) kind = cost_until line a kind
  cost_row (grammar.Test line a) kind = λ s z i k h. (λ m. keep, λ m k2 h2. (omega arith, λ o. keep))
  cost_row (grammar.Between line a c) kind = cost_between line a c kind
  cost_row (grammar.Step line name a b) kind = cost_step line name a b kind
  cost_row (grammar.Body line name a b c) kind = λ s z i k h. (λ m. keep, λ m k2 h2. omega arith)
  cost_row (grammar.Cases line e before) kind = cost_cases line e before kind
  cost_row (grammar.Labels line e before labels) kind = cost_labels line e before labels kind
  cost_row grammar.Written kind = (λ m. keep, λ m k h. (omega arith, λ o. keep))
  cost_row (grammar.Width e) kind = cost_width e kind
  cost_row (grammar.MoreWritten line before) kind = cost_more_written line before kind
  cost_row (grammar.Assignment left) kind = cost_assignment left kind
  cost_row (grammar.Chain level) kind = cost_chain level
  cost_row (grammar.MoreChain level left) kind = cost_more_chain level left kind (operation_of level kind)
  cost_row grammar.Relative kind = cost_relative kind
  cost_row grammar.Compared kind = ((keep, λ m. keep), λ m k h. (omega arith, λ o. keep))
  cost_row (grammar.Comparison left) kind = cost_comparison left kind (relating_of kind)
  cost_row grammar.Factor kind = cost_factor kind
  cost_row grammar.Application kind = ((keep, λ m. keep), λ m k h. (omega arith, λ o. keep))
  cost_row (grammar.Applied f) kind = cost_applied f kind
  cost_row (grammar.Arguments line f) kind = cost_arguments line f kind
  cost_row (grammar.SecondArgument line f first) kind = cost_second line f first kind
  cost_row (grammar.MoreArguments line f before) kind = cost_more_arguments line f before kind
  cost_row grammar.Primary kind = cost_option (grammar.primary text kind) clausal 0 (start_of kind) (cost_primary kind)
  cost_row (grammar.MoreElements line l t before) kind = cost_more_elements line l t before kind

  -- so many symbols further on
  ahead : {symbols : List Symbol} {nesting from to : ℕ} {rule : Rule} {made : Made} → Reads text symbols nesting rule from made to →
      (d : ℕ) × (to ≡ from + d)
  ahead (reading.gives {from = from}) = (0, omega arith)
  ahead (reading.takes here same next) = let h = ahead next in (h.0 + 1, let e = h.1 in omega arith)
  ahead (reading.goes row next) = ahead next
  ahead (reading.opens row next) = ahead next
  ahead (reading.joins earlier later) = let h = ahead earlier in let k = ahead later in (h.0 + k.0, let e = h.1 in let f = k.1 in omega arith)

  abbrev pub AreLight : List Symbol → Type 0
  AreLight symbols = (place : ℕ) (symbol : Symbol) → slice_get symbols place ≡ Some symbol →
      (over symbol.token.line.0 ≡ 0) × IntLight text symbol.kind symbol.token

  -- what is read costs no more
  read : {symbols : List Symbol} {nesting from to : ℕ} {rule : Rule} {made : Made} → AreLight symbols →
      Reads text symbols nesting rule from made to → (w : Made → ℕ) (n : ℕ) → Costs rule w n → w made + 20 * from ≤ n + 20 * to
  read light reading.gives w n h = omega arith
  read light (reading.takes {from = from} {symbol = symbol} here same next) w n h =
      let ok = light from symbol here in
      let e = read light next w (n + 20) (h symbol ok.0 (subst (λ k. IntLight text k symbol.token) same ok.1) (n + 20) keep) in omega arith
  read {symbols = symbols} light (reading.goes {from = from} {part = part} {made = made} row next) w n h =
      let e = read light next (Weighs part) (Had part)
      (subst (λ (o : Option Rule). RowCosts o (Weighs part) (Had part)) row (cost_row part (kind_at symbols from))) in
      let had = h.0 in let same = h.1 made in omega arith
  read {symbols = symbols} light (reading.opens {from = from} {nested = nested} {made = made} row next) w n h =
      let e = read light next (NestedWeighs nested) 0
      (subst (λ (o : Option Rule). RowCosts o (NestedWeighs nested) 0) row (cost_nested nested (kind_at symbols from))) in
      let same = h made in omega arith
  read light (reading.joins {from = from} {middle = middle} {first = first} {one = one} earlier later) w n h =
      let d = ahead earlier in
      let there = d.1 in
      let e = read light earlier (weighed first) (need first) h.0 in
      let f = read light later w (n + 20 * d.0) (h.1 one (n + 20 * d.0) (omega arith)) in omega arith

  pub program_costs : {symbols : List Symbol} {nesting to : ℕ} {tree : Phrase} → AreLight symbols →
      Reads text symbols nesting (Go grammar.Program) 0 (a_clause tree) to → weigh tree ≤ 1 + 20 * to
  program_costs light reads = let e = read light reads clausal 11 (keep, λ m. keep) in omega arith
