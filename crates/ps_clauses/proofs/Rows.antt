-- How the parser's calls follow the rows of the grammar.
use Rattle.std.proofs.Common.{◌≡◌, ℕ, List, [], ◌∷◌, ◌++◌, Bool, Option, Some, None, option_map, slice_get, refl, sym, subst, ap, ◌∙◌}
use Rattle.ps_base.specs.TyView.{TyView}
use Rattle.ps_base.specs.declared.line.Line.{Line}
use Rattle.ps_tree.specs.ps_symbols.declared.kind.Kind.{Kind}
use Rattle.ps_tree.specs.ps_symbols.declared.kind.Kind.TheVariants as kind
use Rattle.ps_tree.specs.ps_symbols.declared.kind.Level.{Level}
use Rattle.ps_tree.specs.ps_symbols.declared.kind.Operation.{Operation}
use Rattle.ps_tree.specs.ps_symbols.declared.kind.Opening.{Opening}
use Rattle.ps_tree.specs.ps_symbols.declared.kind.Relating.{Relating}
use Rattle.ps_tree.specs.ps_symbols.declared.kind.Start.{Start}
use Rattle.ps_tree.specs.declared.rough.Rough.{Rough}
use Rattle.ps_tree.specs.declared.rough.RoughArm.{RoughArm}
use Rattle.ps_tree.specs.declared.rough.RoughItem.{RoughItem}
use Rattle.ps_tree.specs.ps_symbols.declared.symbol.Symbol.{Symbol}
use Rattle.ps_tree.specs.ps_symbols.Kinds.{operation_of, relating_of, begins_item, opening_of, start_of}
use Rattle.ps_tree.specs.Phrase.{Phrase, Phrases, none, more, MaybePhrase, absent, Arms, no_arms, Arm, WriteItem, WriteItems, no_items, more_items, item, GroupAt, NameAt, at, phrase_of, item_of, arm_of, group_of, groups_in, names_in, of_type}
use Rattle.ps_tree.specs.Phrase as form
use Rattle.ps_tree.specs.PhraseLists.{phrases_in, arms_in, items_in}
use Rattle.ps_tree.specs.Composing.{and_arm, and_item, and_then}
use Rattle.ps_reader.specs.Grammar.{Application, Between, Binding, Body, Clause, Compared, Comparison, Factor, Give, Go, Items, Labels, MoreArguments, MoreChain, MoreElements, Primary, Rule, SecondArgument, Step, Test, Until, a_clause, a_clause_inside, an_item, applied, arguments, assignment, between, binding, bound, cases, choice, clause_of, comparison, factor, give, inside, items, items_end, labels, line_at, line_in, more_arguments, more_chain, more_elements, more_written, one_item, opened, operand, primary, relative, second_argument, skip, step, until, width, with_clause}
use Rattle.ps_reader.specs.Reading.{kind_at}
use Rattle.ps_reader.specs.Faults.{unexpected}
use Rattle.ps_tree.specs.declared.fault.ParseFault.{ParseFault}
use Rattle.ps_base.specs.declared.operator.Relation.{Relation}
use Rattle.ps_tree.specs.ps_symbols.declared.kind.Relating.TheVariants.{Compares, IsOf}
use Rattle.ps_tree.specs.Composing.{joined}
use Rattle.ps_reader.specs.declared.reader.Reader.{Reader}
use Rattle.ps_reader.specs.inside.Parsing.{Accepts, IsOther, Stands, StandsForNone}
use Rattle.ps_clauses.specs.inside.Clauses.{IsList, IsOptional, an_arm, behind_is, behind_labels, behind_relation, makes_variable}
use Rattle.ps_reader.specs.inside.Stopping.{Continues, HaltsWith}
use Rattle.ps_tree.proofs.PhraseLemmas.{phrases_in-append, arms_in-append, items_in-append}
use Rattle.ps_reader.proofs.Steps.{on, by_row, took, stood, began, otherwise, same}
use Rattle.ps_reader.proofs.Rows.{goes_by, halts_by}

-- where the kinds that a part asks for aren't there

pub items_other : (line : Line) (before : Phrases) (k : Kind) → (k ≡ kind.Semicolon → ⊥) → items_end line before k ≡ give (form.Sequence before) line
items_other line before kind.Semicolon not_Semicolon = absurd (not_Semicolon refl)
items_other line before _ not_Semicolon = refl

pub item_other : (text : List ℕ) (k : Kind) → (k ≡ kind.Let → ⊥) → (k ≡ kind.Structure → ⊥) → (k ≡ kind.Procedure → ⊥) → one_item text k ≡ Clause
item_other text kind.Let not_Let not_Structure not_Procedure = absurd (not_Let refl)
item_other text kind.Structure not_Let not_Structure not_Procedure = absurd (not_Structure refl)
item_other text kind.Procedure not_Let not_Structure not_Procedure = absurd (not_Procedure refl)
item_other text _ not_Let not_Structure not_Procedure = refl

pub binding_as : (line : Line) (name : NameAt) (k : Kind) → binding line name k ≡ option_map (λ variable. bound k variable line name) (makes_variable k)
binding_as line name kind.Equals = refl
binding_as line name kind.Becomes = refl
binding_as line name _ = refl

pub choice_other : (line : Line) (c : Phrase) (k : Kind) → (k ≡ kind.Do → ⊥) → (k ≡ kind.Then → ⊥) → choice line c k ≡ None
choice_other line c kind.Do not_Do not_Then = absurd (not_Do refl)
choice_other line c kind.Then not_Do not_Then = absurd (not_Then refl)
choice_other line c _ not_Do not_Then = refl

pub until_other : (line : Line) (a : Phrase) (k : Kind) → (k ≡ kind.Semicolon → ⊥) → until line a k ≡ Go (Test line a)
until_other line a kind.Semicolon not_Semicolon = absurd (not_Semicolon refl)
until_other line a _ not_Semicolon = refl

pub between_other : (line : Line) (a : Phrase) (c : Phrase) (k : Kind) → (k ≡ kind.Do → ⊥) → between line a c k ≡ give (form.Repeat a c absent) line
between_other line a c kind.Do not_Do = absurd (not_Do refl)
between_other line a c _ not_Do = refl

pub step_other : (line : Line) (name : NameAt) (a : Phrase) (b : Phrase) (k : Kind) → (k ≡ kind.By → ⊥) → step line name a b k ≡ Go (Body line name a b absent)
step_other line name a b kind.By not_By = absurd (not_By refl)
step_other line name a b _ not_By = refl

pub cases_other : (line : Line) (e : Phrase) (before : Arms) (k : Kind) → (k ≡ kind.Default → ⊥) → cases line e before k ≡ an_arm line e before
cases_other line e before kind.Default not_Default = absurd (not_Default refl)
cases_other line e before _ not_Default = refl

pub labels_other : (line : Line) (e : Phrase) (before : Arms) (all : Phrases) (k : Kind) → (k ≡ kind.Comma → ⊥)
    → labels line e before all k ≡ behind_labels line e before all
labels_other line e before all kind.Comma not_Comma = absurd (not_Comma refl)
labels_other line e before all _ not_Comma = refl

pub width_other : (e : Phrase) (k : Kind) → (k ≡ kind.Colon → ⊥) → width e k ≡ Give (an_item (item e absent (line_in e)))
width_other e kind.Colon not_Colon = absurd (not_Colon refl)
width_other e _ not_Colon = refl

pub written_other : (line : Line) (before : WriteItems) (k : Kind) → (k ≡ kind.Comma → ⊥) → more_written line before k ≡ give (form.Write before) line
written_other line before kind.Comma not_Comma = absurd (not_Comma refl)
written_other line before _ not_Comma = refl

pub assignment_other : (left : Phrase) (k : Kind) → (k ≡ kind.Becomes → ⊥) → assignment left k ≡ Give (a_clause left)
assignment_other left kind.Becomes not_Becomes = absurd (not_Becomes refl)
assignment_other left _ not_Becomes = refl

pub relative_other : (k : Kind) → (k ≡ kind.Tilde → ⊥) → relative k ≡ Go Compared
relative_other kind.Tilde not_Tilde = absurd (not_Tilde refl)
relative_other _ not_Tilde = refl

pub factor_other : (k : Kind) → (k ≡ kind.Plus → ⊥) → (k ≡ kind.Minus → ⊥) → factor k ≡ Go Application
factor_other kind.Plus not_Plus not_Minus = absurd (not_Plus refl)
factor_other kind.Minus not_Plus not_Minus = absurd (not_Minus refl)
factor_other _ not_Plus not_Minus = refl

pub applied_other : (f : Phrase) (k : Kind) → (k ≡ kind.OpenRound → ⊥) → applied f k ≡ Give (a_clause f)
applied_other f kind.OpenRound not_OpenRound = absurd (not_OpenRound refl)
applied_other f _ not_OpenRound = refl

pub arguments_other : (line : Line) (f : Phrase) (k : Kind) → (k ≡ kind.CloseRound → ⊥) → arguments line f k ≡ with_clause (λ first. Go
    (SecondArgument line f first))
arguments_other line f kind.CloseRound not_CloseRound = absurd (not_CloseRound refl)
arguments_other line f _ not_CloseRound = refl

pub second_argument_other : (line : Line) (f : Phrase) (first : Phrase) (k : Kind) → (k ≡ kind.Bar → ⊥) → second_argument line f first k ≡ Go
    (MoreArguments line f (more first none))
second_argument_other line f first kind.Bar not_Bar = absurd (not_Bar refl)
second_argument_other line f first _ not_Bar = refl

pub more_arguments_other : (line : Line) (f : Phrase) (before : Phrases) (k : Kind) → (k ≡ kind.Comma → ⊥)
    → more_arguments line f before k ≡ skip kind.CloseRound (give (form.Apply f before) line)
more_arguments_other line f before kind.Comma not_Comma = absurd (not_Comma refl)
more_arguments_other line f before _ not_Comma = refl

pub more_elements_other : (line : Line) (l : Phrase) (of_each : TyView) (before : Phrases) (k : Kind) → (k ≡ kind.Comma → ⊥)
    → more_elements line l of_each before k ≡ skip kind.CloseSquare (give (form.Elems l of_each before) line)
more_elements_other line l of_each before kind.Comma not_Comma = absurd (not_Comma refl)
more_elements_other line l of_each before _ not_Comma = refl

-- a clause is opened
module _ (text : List ℕ) (symbols : List Symbol) where
  pub clause_opens : (from : ℕ) {found : Kind} {opening : Option Opening} {o : Opening} → found ≡ kind_at symbols from → opening ≡ opening_of found
      → opening ≡ Some o → inside text a_clause_inside (kind_at symbols from) ≡ Some (opened text o)
  clause_opens from here is some = ap (λ (k : Kind). option_map (opened text) (opening_of k)) (sym here) ∙ ap (λ (o : Option Opening). option_map
      (opened text) o) (sym is ∙ some)

module _ {text : List ℕ} {count : ℕ} {symbols : List Symbol} where
  pub item_stands : {room from : ℕ} {line : Line} {before : Phrases} {found : Kind} → found ≡ kind_at symbols from → (stands : Bool)
      → stands ≡ begins_item found → Continues text count symbols room (Go (Items line before)) from (items line before stands) from
  item_stands {line = line} {before = before} {found = found} here stands is = goes_by here (ap (λ (b : Bool). Some (items line before b)) (sym is))

  -- a mark stands after the name of a `let`
  pub binds : {room from : ℕ} {line : Line} {name : NameAt} {found : Kind} {variable : Option Bool} {v : Bool} → found ≡ kind_at symbols from
      → variable ≡ makes_variable found → variable ≡ Some v → Continues text count symbols room (Go (Binding line name)) from (bound found v line name) from
  binds {line = line} {name = name} {found = found} here is some = goes_by here (binding_as line name found ∙ ap (option_map (λ (v : Bool). bound
      found v line name)) (sym is ∙ some))

  pub binds_not : {room from : ℕ} {line : Line} {name : NameAt} {found : Kind} {variable : Option Bool} {fault : ParseFault} → found ≡ kind_at symbols from
      → variable ≡ makes_variable found → variable ≡ None → fault ≡ unexpected text count (slice_get symbols from)
      → HaltsWith text count symbols room (Go (Binding line name)) from fault
  binds_not {line = line} {name = name} {found = found} here is neither = halts_by here (binding_as line name found ∙ ap (option_map (λ (v : Bool). bound
      found v line name)) (sym is ∙ neither))

  -- a loop goes on with what it has made
  pub phrases_begin : {room from : ℕ} (next : Phrases → Rule) {made : List Rough} → made ≡ [] → Continues text count symbols room (next none) from (next
      (phrases_in made)) from
  phrases_begin next is = same (ap (λ (made : List Rough). next (phrases_in made)) (sym is))

  pub phrases_again : {room from : ℕ} (next : Phrases → Rule) (before : List Rough) (last : Rough) {made : List Rough} → made ≡ before ++ last ∷ []
      → Continues text count symbols room (next (and_then (phrases_in before) (phrase_of last))) from (next (phrases_in made)) from
  phrases_again next before last is = same (ap next (sym (ap phrases_in is ∙ phrases_in-append before last)))

  pub phrases_first : {room from : ℕ} (next : Phrases → Rule) (before : List Rough) (last : Rough) {made : List Rough} → before ≡ []
      → made ≡ before ++ last ∷ [] → Continues text count symbols room (next (more (phrase_of last) none)) from (next (phrases_in made)) from
  phrases_first next before last empty is = same (ap (λ (all : List Rough). next (and_then (phrases_in all) (phrase_of last))) (sym empty) ∙ ap next (sym
      (ap phrases_in is ∙ phrases_in-append before last)))

  pub arms_begin : {room from : ℕ} (next : Arms → Rule) {made : List RoughArm} → made ≡ [] → Continues text count symbols room (next no_arms) from (next
      (arms_in made)) from
  arms_begin next is = same (ap (λ (made : List RoughArm). next (arms_in made)) (sym is))

  pub arms_again : {room from : ℕ} (next : Arms → Rule) (before : List RoughArm) (last : RoughArm) {one : Arm} {made : List RoughArm}
      → arm_of last ≡ one → made ≡ before ++ last ∷ [] → Continues text count symbols room (next (and_arm (arms_in before) one)) from (next
      (arms_in made)) from
  arms_again next before last one is = same (ap (λ (a : Arm). next (and_arm (arms_in before) a)) (sym one) ∙ ap next (sym
      (ap arms_in is ∙ arms_in-append before last)))

  pub written_again : {room from : ℕ} (next : WriteItems → Rule) (before : List RoughItem) (last : RoughItem) {made : List RoughItem}
      → made ≡ before ++ last ∷ [] → Continues text count symbols room (next (and_item (items_in before) (item_of last))) from (next (items_in made)) from
  written_again next before last is = same (ap next (sym (ap items_in is ∙ items_in-append before last)))

  pub primary_as : {room from : ℕ} {found : Kind} {begun : Option Start} {how : Start} → found ≡ kind_at symbols from → begun ≡ start_of found
      → begun ≡ Some how → Continues text count symbols room (Go Primary) from (primary text found how) from
  primary_as {found = found} here is some = goes_by here (ap (λ (o : Option Start). option_map (primary text found) o) (sym is ∙ some))

  pub items_begin : {room from : ℕ} (next : WriteItems → Rule) {made : List RoughItem} → made ≡ [] → Continues text count symbols room
      (next no_items) from (next (items_in made)) from
  items_begin next is = same (ap (λ (made : List RoughItem). next (items_in made)) (sym is))

module _ {text : List ℕ} where
  -- the parts that are lists of clauses with commas between them
  pub labels_list : {line : Line} {e : Phrase} {before : Arms} → IsList text (Labels line e before) (behind_labels line e before)
  labels_list = record { comma = λ all. refl; other = λ all k not. ap Some (labels_other _ _ _ all k not) }

  pub arguments_list : {line : Line} {f : Phrase} → IsList text (MoreArguments line f) (λ all. skip kind.CloseRound (give (form.Apply f all) line))
  arguments_list = record { comma = λ all. refl; other = λ all k not. ap Some (more_arguments_other _ _ all k not) }

  pub elements_list : {line : Line} {l : Phrase} {t : TyView} → IsList text (MoreElements line l t) (λ all. skip kind.CloseSquare (give
      (form.Elems l t all) line))
  elements_list = record { comma = λ all. refl; other = λ all k not. ap Some (more_elements_other _ _ _ all k not) }

  -- the parts that are a clause after a word, if it stands there
  pub between_optional : {line : Line} {a c : Phrase} → IsOptional text kind.Do (Between line a c) (λ b. give (form.Repeat a c b) line)
  between_optional = record { symbol = refl; there = refl; other = λ k not. ap Some (between_other _ _ _ k not) }

  pub step_optional : {line : Line} {name : NameAt} {a b : Phrase} → IsOptional text kind.By (Step line name a b) (λ c. Go (Body line name a b c))
  step_optional = record { symbol = refl; there = refl; other = λ k not. ap Some (step_other _ _ _ _ k not) }

module _ (reader : Reader) where
  -- a `;` before the `while` of a `repeat`, or none
  pub passed : {room from to : ℕ} {line : Line} {a : Phrase} (result : Option Symbol) → Accepts reader kind.Semicolon from result to
      → Continues reader.text.now reader.tokens reader.symbols.now room (Go (Until line a)) from (Go (Test line a)) to
  passed (Some symbol) taken = began taken refl
  passed None stays = otherwise stays refl (λ k not. ap Some (until_other _ _ k not))

module _ {reader : Reader} where
  -- a factor without a sign
  pub no_sign : {room from middle to : ℕ} → IsOther reader kind.Plus from middle → IsOther reader kind.Minus middle to
      → Continues reader.text.now reader.tokens reader.symbols.now room (Go Factor) from (Go Application) to
  no_sign {room} {from} plus minus = subst (λ (p : ℕ). Continues reader.text.now reader.tokens reader.symbols.now room (Go Factor) from
      (Go Application) p) (sym (minus.stays ∙ plus.stays)) (by_row (ap Some (factor_other (kind_at reader.symbols.now from) (plus.other refl) (subst (λ
      (p : ℕ). kind_at reader.symbols.now p ≡ kind.Minus → ⊥) plus.stays (minus.other refl)))))

  -- an operator of the level stands after an operand, or none
  pub operated : {room from to : ℕ} {level : Level} {left : Phrase} {operation : Operation} {mark : Symbol} → Stands reader (operation_of level) from
      (operation, mark) to → Continues reader.text.now reader.tokens reader.symbols.now room (Go (MoreChain level left)) from (clause_of (Go
      (operand level)) (λ right. Go (MoreChain level (joined operation left right (line_at mark))))) to
  operated {level = level} {left = left} {mark = mark} stands = on (by_row (ap (λ (k : Kind). Some (more_chain level left k (operation_of level k)))
      (stood stands.taken) ∙ ap (λ (o : Option Operation). Some (more_chain level left mark.kind o)) stands.means)) (took stands.taken)

  pub not_operated : {room from to : ℕ} {level : Level} {left : Phrase} → StandsForNone reader (operation_of level) from to
      → Continues reader.text.now reader.tokens reader.symbols.now room (Go (MoreChain level left)) from (Give (a_clause left)) to
  not_operated {room} {from} {level = level} {left = left} stands = subst (λ (p : ℕ). Continues reader.text.now reader.tokens reader.symbols.now room (Go
      (MoreChain level left)) from (Give (a_clause left)) p) (sym stands.stays) (by_row (ap (λ (o : Option Operation). Some (more_chain level left
      (kind_at reader.symbols.now from) o)) stands.none))

  -- a comparison stands after a sum, or the question for a class, or none
  related : {room from to : ℕ} {left : Phrase} {relating : Relating} {mark : Symbol} → Stands reader relating_of from (relating, mark) to →
      (how : Relating) → relating ≡ how → Continues reader.text.now reader.tokens reader.symbols.now room (Go (Comparison left)) from
      (comparison reader.text.now left mark.kind (Some how)) from
  related {left = left} {mark = mark} stands how is = by_row (ap (λ (k : Kind). Some (comparison reader.text.now left k (relating_of k)))
      (stood stands.taken) ∙ ap (λ (r : Option Relating). Some (comparison reader.text.now left mark.kind r)) (stands.means ∙ ap Some is))

  pub compares_there : {room from to : ℕ} {left : Phrase} {relating : Relating} {mark : Symbol} {op : Relation} → Stands reader relating_of from
      (relating, mark) to → relating ≡ Compares op → Continues reader.text.now reader.tokens reader.symbols.now room (Go (Comparison left)) from
      (behind_relation left op (line_at mark)) to
  compares_there stands is = on (related stands _ is) (took stands.taken)

  pub is_there : {room from to : ℕ} {left : Phrase} {relating : Relating} {mark : Symbol} {negated : Bool} → Stands reader relating_of from
      (relating, mark) to → relating ≡ IsOf negated → Continues reader.text.now reader.tokens reader.symbols.now room (Go (Comparison left)) from
      (behind_is reader.text.now left negated (line_at mark)) to
  is_there stands is = on (related stands _ is) (took stands.taken)

  pub not_related : {room from to : ℕ} {left : Phrase} → StandsForNone reader relating_of from to
      → Continues reader.text.now reader.tokens reader.symbols.now room (Go (Comparison left)) from (Give (a_clause left)) to
  not_related {room} {from} {left = left} stands = subst (λ (p : ℕ). Continues reader.text.now reader.tokens reader.symbols.now room (Go
      (Comparison left)) from (Give (a_clause left)) p) (sym stands.stays) (by_row (ap (λ (r : Option Relating). Some (comparison reader.text.now left
      (kind_at reader.symbols.now from) r)) stands.none))
