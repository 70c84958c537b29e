-- Every tree that the grammar gives is canonical.
use Rattle.std.proofs.Common.{◌≡◌, ℕ, suc, ◌+◌, List, Bool, true, false, Option, Some, None, option_map, refl, ap, ◌∙◌, subst, arith}
use Rattle.ps_layout.specs.ps_base.TyView.{TyView}
use Rattle.ps_layout.specs.ps_base.declared.line.Line.{Line}
use Rattle.ps_parse.specs.ps_scan.declared.token.Token.{Token}
use Rattle.ps_parse.specs.ps_scan.Tokens.{line_of, HasTokens, IsName}
use Rattle.ps_layout.specs.ps_symbols.declared.kind.Kind.{Kind}
use Rattle.ps_layout.specs.ps_symbols.declared.kind.Kind.TheVariants as kind
use Rattle.ps_layout.specs.ps_symbols.declared.kind.Level.{Level}
use Rattle.ps_layout.specs.ps_symbols.declared.kind.Level.TheVariants.{Disjunction, Conjunction, Sum, Product}
use Rattle.ps_layout.specs.ps_symbols.declared.kind.Opening.{Opening}
use Rattle.ps_layout.specs.ps_symbols.declared.kind.Opening.TheVariants as opening
use Rattle.ps_layout.specs.ps_symbols.declared.kind.Relating.{Relating}
use Rattle.ps_layout.specs.ps_symbols.declared.kind.Relating.TheVariants.{Compares, IsOf}
use Rattle.ps_layout.specs.ps_symbols.declared.kind.TypeStart.{TypeStart}
use Rattle.ps_layout.specs.ps_symbols.declared.kind.TypeStart.TheVariants as typed
use Rattle.ps_layout.specs.ps_symbols.declared.symbol.Symbol.{Symbol}
use Rattle.ps_layout.specs.ps_symbols.Kinds.{operation_of, relating_of, begins_item, begins_type, opening_of, type_start_of}
use Rattle.ps_layout.specs.ps_tree.Phrase.{NameAt, GroupAt, Phrase, at, Phrases, none, more, MaybePhrase, absent, present, Arms, WriteItems, no_items, more_items}
use Rattle.ps_layout.specs.ps_tree.Phrase as form
use Rattle.ps_parse.specs.ps_reader.Grammar
use Rattle.ps_parse.specs.ps_reader.Grammar.{Made, a_clause, Part, Program, Ending, Ended, Items, MoreItems, Item, Binding, Literal, Parameters, Groups, MoreGroups, NextGroup, Result, ParameterTypes, MoreTypes, Choice, Until, Test, Between, Step, Body, Cases, Labels, Written, Width, MoreWritten, Assignment, Chain, MoreChain, Relative, Compared, Comparison, Factor, Application, Applied, Arguments, SecondArgument, MoreArguments, Primary, MoreElements, Rule, Give, Take, Go, Then, Clause, Type_, a_clause_inside, a_type_inside, the_clause, the_type, the_types, the_groups, the_item, inside, row, opened, typed_as}
use Rattle.ps_parse.specs.ps_reader.Reading.{kind_at, kind_of_next, Reads, gives, takes, goes, opens, joins}
use Rattle.ps_parse.specs.Program.{IsProgram}
use Rattle.ps_layout.specs.ps_symbols.Symbols.{symbols as symbols_of}
use Rattle.ps_layout.specs.Layout.{Behind, other, before_do, before_comma, before_colon, is_taken, ends_open, Tightness, disjunction, conjunction, negation, sum, product, signed, application, primary}
use Rattle.ps_layout.specs.Layout as tight
use Rattle.ps_reread.proofs.Canonical.{IsType, AreTypes, IsResult, AreGroups, IsClause, IsOperand, IsForm, AreClauses, AreArms, AreItems, IsWritten, AreItemsOf, IsItem}
use Rattle.ps_reread.proofs.Leaves.{IsLeaf, AreLeaves, leaves}
use Rattle.ps_reread.proofs.Making.{whole, lower, bracket, expression_clause, IsProcedure, procedure, procedure_clause, procedure_item, let_item, one_more_item, one_more_type, one_more_group, one_more_clause, one_more_written, ends_alike, has_clause, has_item, has_one_more, has_one_more_item, one_more_arm, written_clause, elements_operand, IsSequence, sequence, block_operand}

-- what a clause that ends before this kind has after it
abbrev behind_of : Kind → Behind
behind_of kind.Do = before_do
behind_of kind.Comma = before_comma
behind_of kind.Colon = before_colon
behind_of _ = other

abbrev tightness_of : Level → Tightness
tightness_of Disjunction = disjunction
tightness_of Conjunction = conjunction
tightness_of Sum = sum
tightness_of Product = product

-- what a rule gives: a clause or a type, or what stands inside one; an operand that binds so tight;
-- and so on
data Sort : Type 0 where
  of_clause : Sort
  in_clause : Sort
  of_operand : (needed : Tightness) → Sort
  of_item : Sort
  of_sequence : (line : Line) → Sort
  of_program : Sort
  of_procedure : Sort
  of_written : Sort
  of_type : Sort
  in_type : Sort
  of_types : Sort
  of_result : Sort
  of_groups : Sort

-- what has been read before this kind is canonical
abbrev Fits : ℕ → Sort → Kind → Made → Type 0
Fits room of_clause k made = IsClause room (behind_of k) (the_clause made)
Fits room in_clause k made = IsClause (suc room) (behind_of k) (the_clause made)
Fits room (of_operand needed) k made = IsOperand room needed (the_clause made)
Fits room of_item k made = behind_of k ≡ other → IsItem room (the_clause made)
Fits room (of_sequence line) k made = behind_of k ≡ other → IsSequence room line (the_clause made)
Fits room of_program k made = IsSequence room (line_of 1) (the_clause made)
Fits room of_procedure k made = IsProcedure room (behind_of k) (the_clause made)
Fits room of_written k made = IsWritten room (behind_of k) (the_item made) × (k ≡ kind.Colon → ends_open (more_items (the_item made) no_items) ≡ false)
Fits room of_type k made = IsType room (the_type made)
Fits room in_type k made = IsType (suc room) (the_type made)
Fits room of_types k made = AreTypes room (the_types made)
Fits room of_result k made = IsResult room (the_type made)
Fits room of_groups k made = AreGroups room (the_groups made)

abbrev sort_of : Part → Sort
sort_of Program = of_program
sort_of (Ending all) = of_program
sort_of (Ended all) = of_program
sort_of (Items line before) = of_sequence line
sort_of (MoreItems line before) = of_sequence line
sort_of Item = of_item
sort_of (Binding line name) = of_item
sort_of (Literal line) = of_procedure
sort_of Parameters = of_groups
sort_of (Groups before) = of_groups
sort_of (MoreGroups of_last before) = of_groups
sort_of (NextGroup of_last before) = of_groups
sort_of Result = of_result
sort_of ParameterTypes = of_types
sort_of (MoreTypes before) = of_types
sort_of (Choice line c) = in_clause
sort_of (Until line a) = in_clause
sort_of (Test line a) = in_clause
sort_of (Between line a c) = in_clause
sort_of (Step line name a b) = in_clause
sort_of (Body line name a b c) = in_clause
sort_of (Cases line e before) = in_clause
sort_of (Labels line e before all) = in_clause
sort_of Written = of_written
sort_of (Width e) = of_written
sort_of (MoreWritten line before) = in_clause
sort_of (Assignment left) = in_clause
sort_of (Chain level) = of_operand (tightness_of level)
sort_of (MoreChain level left) = of_operand (tightness_of level)
sort_of Relative = of_operand negation
sort_of Compared = of_operand tight.comparison
sort_of (Comparison left) = of_operand tight.comparison
sort_of Factor = of_operand signed
sort_of Application = of_operand application
sort_of (Applied f) = of_operand application
sort_of (Arguments line f) = of_operand application
sort_of (SecondArgument line f first) = of_operand application
sort_of (MoreArguments line f before) = of_operand application
sort_of Primary = of_operand primary
sort_of (MoreElements line l t before) = of_operand primary

-- what has been read before a part is canonical, before the kind at which the part begins
abbrev Needs : ℕ → Part → Kind → Type 0
Needs room (Ending all) k = behind_of k ≡ other → IsSequence room (line_of 1) all
Needs room (Ended all) k = IsSequence room (line_of 1) all
Needs room (Items line before) k = AreItemsOf room before
Needs room (MoreItems line before) k = behind_of k ≡ other → AreItemsOf room before
Needs room (Binding line name) k = IsName name.name
Needs room (Groups before) k = AreGroups room before
Needs room (MoreGroups of_last before) k = IsType room of_last × AreGroups room before
Needs room (NextGroup of_last before) k = IsType room of_last × AreGroups room before
Needs room (MoreTypes before) k = AreTypes room before
Needs room (Choice line c) k = IsClause room (behind_of k) c
Needs room (Until line a) k = IsClause room (behind_of k) a
Needs room (Test line a) k = k ≡ kind.While → IsClause room other a
Needs room (Between line a c) k = IsClause room other a × IsClause room (behind_of k) c
Needs room (Step line name a b) k = IsName name.name × IsClause room other a × IsClause room (behind_of k) b
Needs room (Body line name a b absent) k = IsName name.name × IsClause room other a × IsClause room (behind_of k) b
Needs room (Body line name a b (present c)) k = IsName name.name × IsClause room other a × IsClause room other b × IsClause room (behind_of k) c
Needs room (Cases line e before) k = IsClause room other e × AreArms room before
Needs room (Labels line e before all) k = IsClause room other e × AreArms room before × (has_clause all ≡ true) × AreClauses room (behind_of k) all
Needs room (Width e) k = IsClause room (behind_of k) e
Needs room (MoreWritten line before) k = (has_item before ≡ true) × AreItems room (behind_of k) before × (k ≡ kind.Colon → ends_open before ≡ false)
Needs room (Assignment left) k = IsOperand room disjunction left
Needs room (MoreChain level left) k = IsOperand room (tightness_of level) left
Needs room (Comparison left) k = IsOperand room sum left
Needs room (Applied f) k = IsOperand room application f
Needs room (Arguments line f) k = IsOperand room application f
Needs room (SecondArgument line f first) k = IsOperand room application f × IsClause room (behind_of k) first
Needs room (MoreArguments line f before) k = IsOperand room application f × AreClauses room (behind_of k) before
Needs room (MoreElements line l t before) k = IsClause room other l × IsType room t × (has_clause before ≡ true) × AreClauses room (behind_of k) before
Needs room _ k = Unit {0}

-- a rule that is read from a symbol of this kind on gives what is canonical
data Typed (text : List ℕ) (room : ℕ) : Kind → Rule → Sort → Type 0 where
  give : {k : Kind} {made : Made} {sort : Sort} → Fits room sort k made → Typed text room k (Give made) sort
  take : {k kind : Kind} {next : Symbol → Rule} {sort : Sort} → ((symbol : Symbol) → k ≡ kind → symbol.kind ≡ kind → IsLeaf text symbol → (k' : Kind) → Typed text room k' (next symbol) sort) → Typed text room k (Take kind next) sort
  go : {k : Kind} {part : Part} {sort : Sort} → Needs room part k → ((k' : Kind) (made : Made) → Fits room (sort_of part) k' made → Fits room sort k' made) → Typed text room k (Go part) sort
  clause : {k : Kind} {sort : Sort} → ((k' : Kind) (made : Made) → Fits room of_clause k' made → Fits room sort k' made) → Typed text room k Clause sort
  type : {k : Kind} {sort : Sort} → ((k' : Kind) (made : Made) → Fits room of_type k' made → Fits room sort k' made) → Typed text room k Type_ sort
  join : {k : Kind} {first : Rule} {next : Made → Rule} {one_sort sort : Sort} → Typed text room k first one_sort → ((one : Made) (k' : Kind) → Fits room one_sort k' one → Typed text room k' (next one) sort) → Typed text room k (Then first next) sort

-- a rule that stands in a row
abbrev RowIsTyped : List ℕ → ℕ → Kind → Sort → Option Rule → Type 0
RowIsTyped text room k sort None = Unit {0}
RowIsTyped text room k sort (Some rule) = Typed text room k rule sort

-- the kind before which a clause stands is that of the token taken next
front : {k found : Kind} {room : ℕ} {p : Phrase} → k ≡ found → IsClause room (behind_of k) p → IsClause room (behind_of found) p
front {room = room} {p = p} same = subst (λ (k : Kind). IsClause room (behind_of k) p) same

fronts : {k found : Kind} {room : ℕ} {ps : Phrases} → k ≡ found → AreClauses room (behind_of k) ps → AreClauses room (behind_of found) ps
fronts {room = room} {ps = ps} same = subst (λ (k : Kind). AreClauses room (behind_of k) ps) same

module _ {text : List ℕ} {room : ℕ} where
  -- a part, a clause and a type as they are
  part : {k : Kind} {of_row : Part} → Needs room of_row k → Typed text room k (Go of_row) (sort_of of_row)
  part needs = go needs λ k made fits. fits

  a_clause_next : {k : Kind} → Typed text room k Clause of_clause
  a_clause_next = clause λ k made fits. fits

  a_type_next : {k : Kind} → Typed text room k Type_ of_type
  a_type_next = type λ k made fits. fits

  items_typed : {k : Kind} (line : Line) (before : Phrases) (begins : Bool) → AreItemsOf room before → Typed text room k (Grammar.items line before begins) (of_sequence line)
  items_typed line before true fits = join (part tt) λ one k item. part λ ends. one_more_item fits (item ends)
  items_typed line before false fits = part λ ends. fits

  item_typed : (k : Kind) → Typed text room k (Grammar.one_item text k) of_item
  item_typed kind.Let = take λ word here is leaf k. take λ name here is leaf k. part (leaf.name is)
  item_typed kind.Structure = take λ word here is leaf k. take λ name here is leaf k. take λ mark here is' leaf' k. join (part tt) λ fields k all. take λ mark here is' leaf' k. give λ ends. IsItem.a_structure (leaf.name is) all
  item_typed kind.Procedure = take λ word here is leaf k. take λ name here is leaf k. join (part tt) λ e k literal. give λ ends. procedure_item (leaf.name is) (subst (λ (b : Behind). IsProcedure room b (the_clause e)) ends literal)
  item_typed _ = clause λ k made fits ends. IsItem.a_clause (subst (λ (b : Behind). IsClause room b (the_clause made)) ends fits)

  bound_typed : {k : Kind} (mark : Kind) (variable : Bool) (line : Line) (name : NameAt) → IsName name.name → Typed text room k (Grammar.bound mark variable line name) of_item
  bound_typed mark variable line name named = take λ sign here is leaf k. join a_clause_next λ e k fits. give λ ends. let_item named (subst (λ (b : Behind). IsClause room b (the_clause e)) ends fits)

  literal_typed : {k : Kind} (line : Line) → Typed text room k (Grammar.literal line) of_procedure
  literal_typed line = take λ mark here is leaf k. join (part tt) λ params k all. join (part tt) λ gives k result. take λ mark here is leaf k. take λ mark here is leaf k. join a_clause_next λ s k fits. give (procedure all result fits)

  named_group_typed : {k : Kind} (before : List GroupAt) (t : TyView) → IsType room t → AreGroups room before → Typed text room k (Grammar.named_group text before t) of_groups
  named_group_typed before t of_t all = take λ name here is leaf k. part (of_t, one_more_group _ all of_t (leaf.name is))

  parameters_typed : {k : Kind} (begins : Bool) → Typed text room k (Grammar.parameters begins) of_groups
  parameters_typed true = part AreGroups.no_groups
  parameters_typed false = give AreGroups.no_groups

  parameter_types_typed : {k : Kind} (begins : Bool) → Typed text room k (Grammar.parameter_types begins) of_types
  parameter_types_typed true = join a_type_next λ t k fits. part (AreTypes.more_types fits AreTypes.no_types)
  parameter_types_typed false = give AreTypes.no_types

  chain_typed : (level : Level) (left : Phrase) (k : Kind) → IsOperand room (tightness_of level) left → Typed text room k (Grammar.more_chain level left k (operation_of level k)) (of_operand (tightness_of level))
  chain_typed Disjunction left kind.Or fits = take λ mark here is leaf k. join (part tt) λ right k r. part (IsOperand.tight refl (IsForm.or fits r))
  chain_typed Conjunction left kind.And fits = take λ mark here is leaf k. join (part tt) λ right k r. part (IsOperand.tight refl (IsForm.and fits r))
  chain_typed Sum left kind.Plus fits = take λ mark here is leaf k. join (part tt) λ right k r. part (IsOperand.tight refl (IsForm.arith fits r))
  chain_typed Sum left kind.Minus fits = take λ mark here is leaf k. join (part tt) λ right k r. part (IsOperand.tight refl (IsForm.arith fits r))
  chain_typed Sum left kind.Concatenate fits = take λ mark here is leaf k. join (part tt) λ right k r. part (IsOperand.tight refl (IsForm.join fits r))
  chain_typed Product left kind.Times fits = take λ mark here is leaf k. join (part tt) λ right k r. part (IsOperand.tight refl (IsForm.arith fits r))
  chain_typed Product left kind.Div fits = take λ mark here is leaf k. join (part tt) λ right k r. part (IsOperand.tight refl (IsForm.arith fits r))
  chain_typed Product left kind.Rem fits = take λ mark here is leaf k. join (part tt) λ right k r. part (IsOperand.tight refl (IsForm.arith fits r))
  chain_typed Disjunction left _ fits = give fits
  chain_typed Conjunction left _ fits = give fits
  chain_typed Sum left _ fits = give fits
  chain_typed Product left _ fits = give fits

  comparison_typed : (left : Phrase) (k : Kind) (how : Option Relating) → IsOperand room sum left → Typed text room k (Grammar.comparison text left k how) (of_operand tight.comparison)
  comparison_typed left k (Some (Compares op)) fits = take λ mark here is leaf k. join (part tt) λ right k r. give (IsOperand.tight refl (IsForm.compare fits r))
  comparison_typed left k (Some (IsOf negated)) fits = take λ word here is leaf k. take λ name here is leaf k. give (IsOperand.tight refl (IsForm.is fits (leaf.name is)))
  comparison_typed left k None fits = give (lower (omega arith) fits)

  opened_typed : {k : Kind} (how : Opening) → Typed text room k (opened text how) in_clause
  opened_typed opening.Condition = take λ word here is leaf k. join a_clause_next λ c k fits. part fits
  opened_typed opening.Repetition = take λ word here is leaf k. join a_clause_next λ c k c_fits. take λ word here is leaf k. join a_clause_next λ a k a_fits. give (whole refl (IsForm.while_do (front here c_fits) a_fits))
  opened_typed opening.Repeating = take λ word here is leaf k. join a_clause_next λ a k fits. part fits
  opened_typed opening.Counting = take λ word here is leaf k. take λ name here is leaf k. take λ mark here is' leaf' k. join a_clause_next λ a k a_fits. take λ word here is' leaf' k. join a_clause_next λ b k b_fits. part (leaf.name is, front here a_fits, b_fits)
  opened_typed opening.Choosing = take λ word here is leaf k. join a_clause_next λ e k fits. take λ word here is leaf k. part (front here fits, AreArms.none_of_them)
  opened_typed opening.Writing = take λ word here is leaf k. join (part tt) λ first k fits. part (refl, AreItems.and_items fits.0 AreItems.nothing_more, fits.1)
  opened_typed opening.Aborting = take λ word here is leaf k. give (whole refl IsForm.abort)
  opened_typed opening.Procedure = take λ word here is leaf k. go tt λ k made fits. procedure_clause fits
  opened_typed opening.Filling = take λ word here is leaf k. join a_clause_next λ l k l_fits. take λ mark here is leaf k. join a_clause_next λ u k u_fits. take λ word here' is leaf k. join a_clause_next λ e k e_fits. give (whole refl (IsForm.vector (front here l_fits) (front here' u_fits) e_fits))
  opened_typed opening.Expression = join (part tt) λ left k fits. part fits

  type_typed : {k : Kind} (start : TypeStart) → Typed text room k (typed_as start) in_type
  type_typed typed.Int = take λ word here is leaf k. give IsType.int
  type_typed typed.Bool = take λ word here is leaf k. give IsType.bool
  type_typed typed.Str = take λ word here is leaf k. give IsType.str
  type_typed typed.Pntr = take λ word here is leaf k. give IsType.pntr
  type_typed typed.Vector = take λ mark here is leaf k. join a_type_next λ element k fits. give (IsType.vector fits)
  type_typed typed.Proc = take λ word here is leaf k. take λ mark here is leaf k. join (part tt) λ params k all. join (part tt) λ gives k result. take λ mark here is leaf k. give (IsType.proc all result)

  block_typed : {k : Kind} (first last : Kind) → behind_of last ≡ other → Typed text room k (Grammar.block first last) (of_operand primary)
  block_typed first last ends = take λ mark here is leaf k. join (part AreItemsOf.no_item) λ all k fits. take λ mark here is leaf k. give (block_operand (fits (ap behind_of here ∙ ends)))

  bound_of_typed : {k : Kind} (first : Kind) (upper : Bool) → Typed text room k (Grammar.bound_of first upper) (of_operand primary)
  bound_of_typed first upper = take λ word here is leaf k. take λ mark here is leaf k. join a_clause_next λ e k fits. take λ mark here is leaf k. give (IsOperand.tight refl (IsForm.bound (front here fits)))

  elements_typed : {k : Kind} → Typed text room k Grammar.elements (of_operand primary)
  elements_typed = take λ mark here is leaf k. join a_clause_next λ l k l_fits. take λ word here is leaf k. join a_type_next λ t k t_fits. take λ mark here' is leaf k. join a_clause_next λ first k fits. part (front here l_fits, t_fits, refl, AreClauses.more_clauses fits AreClauses.no_clauses)

module _ (text : List ℕ) (room : ℕ) where
  -- what each part is, and each clause and each type
  rows_typed : (of_row : Part) (k : Kind) → Needs room of_row k → RowIsTyped text room k (sort_of of_row) (row text of_row k)
  rows_typed Program k needs = join (part AreItemsOf.no_item) λ all k fits. part fits
  rows_typed (Ending all) kind.Question needs = take λ mark here is leaf k. part (needs refl)
  rows_typed (Ending all) kind.EndOfText needs = give (needs refl)
  rows_typed (Ending all) _ needs = tt
  rows_typed (Ended all) kind.EndOfText needs = give needs
  rows_typed (Ended all) _ needs = tt
  rows_typed (Items line before) k needs = items_typed line before (begins_item k) needs
  rows_typed (MoreItems line before) kind.Semicolon needs = take λ mark here is leaf k. part (needs refl)
  rows_typed (MoreItems line before) _ needs = give λ ends. sequence (needs ends)
  rows_typed Item k needs = item_typed k
  rows_typed (Binding line name) kind.Equals needs = bound_typed kind.Equals false line name needs
  rows_typed (Binding line name) kind.Becomes needs = bound_typed kind.Becomes true line name needs
  rows_typed (Binding line name) _ needs = tt
  rows_typed (Literal line) k needs = literal_typed line
  rows_typed Parameters k needs = parameters_typed (begins_type k)
  rows_typed (Groups before) k needs = join a_type_next λ t k fits. named_group_typed before (the_type t) fits needs
  rows_typed (MoreGroups of_last before) kind.Comma needs = take λ mark here is leaf k. part needs
  rows_typed (MoreGroups of_last before) kind.Semicolon needs = take λ mark here is leaf k. part needs.1
  rows_typed (MoreGroups of_last before) _ needs = give needs.1
  rows_typed (NextGroup of_last before) kind.Name needs = named_group_typed before of_last needs.0 needs.1
  rows_typed (NextGroup of_last before) _ needs = part needs.1
  rows_typed Result kind.Arrow needs = take λ mark here is leaf k. type λ k made fits. IsResult.result fits
  rows_typed Result _ needs = give IsResult.no_result
  rows_typed ParameterTypes k needs = parameter_types_typed (begins_type k)
  rows_typed (MoreTypes before) kind.Comma needs = take λ mark here is leaf k. join a_type_next λ t k fits. part (one_more_type needs fits)
  rows_typed (MoreTypes before) _ needs = give needs
  rows_typed (Choice line c) kind.Do needs = take λ word here is leaf k. join a_clause_next λ a k fits. give (whole refl (IsForm.if_do needs fits))
  rows_typed (Choice line c) kind.Then needs = take λ word here is leaf k. join a_clause_next λ a k a_fits. take λ word here is leaf k. join a_clause_next λ b k b_fits. give (whole refl (IsForm.if_else needs (front here a_fits) b_fits))
  rows_typed (Choice line c) _ needs = tt
  rows_typed (Until line a) kind.Semicolon needs = take λ mark here is leaf k. part λ same. needs
  rows_typed (Until line a) k needs = part λ same. front same needs
  rows_typed (Test line a) k needs = take λ word here is leaf k. join a_clause_next λ c k fits. part (needs here, fits)
  rows_typed (Between line a c) kind.Do needs = take λ word here is leaf k. join a_clause_next λ b k fits. give (whole refl (IsForm.repeat_do needs.0 needs.1 fits))
  rows_typed (Between line a c) _ needs = give (IsClause.plain refl (IsForm.repeat_while (λ same. cc) needs.0 needs.1))
  rows_typed (Step line name a b) kind.By needs = take λ word here is leaf k. join a_clause_next λ c k fits. part (needs.0, needs.1, needs.2, fits)
  rows_typed (Step line name a b) _ needs = part needs
  rows_typed (Body line name a b absent) k needs = take λ word here is leaf k. join a_clause_next λ s k fits. give (whole refl (IsForm.for_to needs.0 needs.1 (front here needs.2) fits))
  rows_typed (Body line name a b (present c)) k needs = take λ word here is leaf k. join a_clause_next λ s k fits. give (whole refl (IsForm.for_by needs.0 needs.1 needs.2 (front here needs.3) fits))
  rows_typed (Cases line e before) kind.Default needs = take λ word here is leaf k. take λ mark here is leaf k. join a_clause_next λ d k fits. give (whole refl (IsForm.case_of needs.0 needs.1 fits))
  rows_typed (Cases line e before) _ needs = join a_clause_next λ label k fits. part (needs.0, needs.1, refl, AreClauses.more_clauses fits AreClauses.no_clauses)
  rows_typed (Labels line e before all) kind.Comma needs = take λ mark here is leaf k. join a_clause_next λ label k fits. part (needs.0, needs.1, has_one_more all (the_clause label), one_more_clause needs.3 fits)
  rows_typed (Labels line e before all) _ needs = take λ mark here is leaf k. join a_clause_next λ a k fits. take λ mark here' is leaf k. part (needs.0, one_more_arm needs.2 needs.1 (fronts here needs.3) (front here' fits))
  rows_typed Written k needs = join a_clause_next λ e k fits. part fits
  rows_typed (Width e) kind.Colon needs = take λ mark here is leaf k. join a_clause_next λ w k fits. give (IsWritten.wide needs fits, λ same. refl)
  rows_typed (Width e) _ needs = give (IsWritten.as_wide needs, λ same. absurd (cc))
  rows_typed (MoreWritten line before) kind.Comma needs = take λ mark here is leaf k. join (part tt) λ one k fits. part (has_one_more_item before (the_item one), one_more_written needs.1 fits.0, λ same. ends_alike before (the_item one) ∙ fits.1 same)
  rows_typed (MoreWritten line before) kind.Colon needs = give (written_clause needs.0 (needs.2 refl) needs.1)
  rows_typed (MoreWritten line before) _ needs = give (written_clause needs.0 refl needs.1)
  rows_typed (Assignment left) kind.Becomes needs = take λ mark here is leaf k. join a_clause_next λ e k fits. give (whole refl (IsForm.assign needs fits))
  rows_typed (Assignment left) k needs = give (expression_clause (behind_of k) needs)
  rows_typed (Chain Disjunction) k needs = join (part tt) λ left k fits. part (lower (omega arith) fits)
  rows_typed (Chain Conjunction) k needs = join (part tt) λ left k fits. part (lower (omega arith) fits)
  rows_typed (Chain Sum) k needs = join (part tt) λ left k fits. part (lower (omega arith) fits)
  rows_typed (Chain Product) k needs = join (part tt) λ left k fits. part (lower (omega arith) fits)
  rows_typed (MoreChain level left) k needs = chain_typed level left k needs
  rows_typed Relative kind.Tilde needs = take λ mark here is leaf k. join (part tt) λ e k fits. give (IsOperand.tight refl (IsForm.not fits))
  rows_typed Relative _ needs = go tt λ k made fits. lower (omega arith) fits
  rows_typed Compared k needs = join (part tt) λ left k fits. part fits
  rows_typed (Comparison left) k needs = comparison_typed left k (relating_of k) needs
  rows_typed Factor kind.Plus needs = take λ mark here is leaf k. join (part tt) λ e k fits. give (IsOperand.tight refl (IsForm.plus fits))
  rows_typed Factor kind.Minus needs = take λ mark here is leaf k. join (part tt) λ e k fits. give (IsOperand.tight refl (IsForm.neg fits))
  rows_typed Factor _ needs = go tt λ k made fits. lower (omega arith) fits
  rows_typed Application k needs = join (part tt) λ f k fits. part (lower (omega arith) fits)
  rows_typed (Applied f) kind.OpenRound needs = take λ mark here is leaf k. join (part needs) λ made k fits. part fits
  rows_typed (Applied f) _ needs = give needs
  rows_typed (Arguments line f) kind.CloseRound needs = take λ mark here is leaf k. give (IsOperand.tight refl (IsForm.apply needs AreClauses.no_clauses))
  rows_typed (Arguments line f) _ needs = join a_clause_next λ first k fits. part (needs, fits)
  rows_typed (SecondArgument line f first) kind.Bar needs = take λ mark here is leaf k. join a_clause_next λ n k fits. take λ mark here is leaf k. give (IsOperand.tight refl (IsForm.part needs.0 needs.1 (front here fits)))
  rows_typed (SecondArgument line f first) _ needs = part (needs.0, AreClauses.more_clauses needs.1 AreClauses.no_clauses)
  rows_typed (MoreArguments line f before) kind.Comma needs = take λ mark here is leaf k. join a_clause_next λ one k fits. part (needs.0, one_more_clause needs.1 fits)
  rows_typed (MoreArguments line f before) _ needs = take λ mark here is leaf k. give (IsOperand.tight refl (IsForm.apply needs.0 (fronts here needs.1)))
  rows_typed Primary kind.Name needs = take λ name here is leaf k. give (IsOperand.tight refl (IsForm.name (leaf.name is)))
  rows_typed Primary kind.Int needs = take λ int here is leaf k. give (IsOperand.tight refl (IsForm.int (leaf.int is)))
  rows_typed Primary kind.Text needs = take λ string here is leaf k. give (IsOperand.tight refl (IsForm.text (leaf.string is).0 (leaf.string is).1))
  rows_typed Primary kind.True needs = take λ word here is leaf k. give (IsOperand.tight refl IsForm.flag)
  rows_typed Primary kind.False needs = take λ word here is leaf k. give (IsOperand.tight refl IsForm.flag)
  rows_typed Primary kind.Nil needs = take λ word here is leaf k. give (IsOperand.tight refl IsForm.nil)
  rows_typed Primary kind.OpenRound needs = take λ mark here is leaf k. join a_clause_next λ e k fits. take λ mark here is leaf k. give (bracket (front here fits))
  rows_typed Primary kind.Begin needs = block_typed kind.Begin kind.End refl
  rows_typed Primary kind.OpenCurly needs = block_typed kind.OpenCurly kind.CloseCurly refl
  rows_typed Primary kind.Lwb needs = bound_of_typed kind.Lwb false
  rows_typed Primary kind.Upb needs = bound_of_typed kind.Upb true
  rows_typed Primary kind.At needs = elements_typed
  rows_typed Primary _ needs = tt
  rows_typed (MoreElements line l t before) kind.Comma needs = take λ mark here is leaf k. join a_clause_next λ one k fits. part (needs.0, needs.1, has_one_more before (the_clause one), one_more_clause needs.3 fits)
  rows_typed (MoreElements line l t before) _ needs = take λ mark here is leaf k. give (elements_operand needs.2 needs.0 needs.1 (fronts here needs.3))

  openings_typed : (k : Kind) (how : Option Opening) → RowIsTyped text room k in_clause (option_map (opened text) how)
  openings_typed k (Some how) = opened_typed how
  openings_typed k None = tt

  type_starts_typed : (k : Kind) (start : Option TypeStart) → RowIsTyped text room k in_type (option_map typed_as start)
  type_starts_typed k (Some start) = type_typed start
  type_starts_typed k None = tt

-- what such a rule gives when it is read
typed_reads : {text : List ℕ} {symbols : List Symbol} {room from to : ℕ} {rule : Rule} {made : Made} {sort : Sort} → AreLeaves text symbols → Reads text symbols room rule from made to → Typed text room (kind_at symbols from) rule sort → Fits room sort (kind_at symbols to) made
typed_reads all gives (give fits) = fits
typed_reads {symbols = symbols} all (takes {from = from} {symbol = symbol} here is rest) (take next) = typed_reads all rest (next symbol (ap kind_of_next here ∙ is) is (all from symbol here) (kind_at symbols (from + 1)))
typed_reads {text} {symbols} {room} all (goes {from = from} {part = of_row} is rest) (go needs as_) = as_ _ _ (typed_reads all rest (subst (λ (o : Option Rule). RowIsTyped text room (kind_at symbols from) (sort_of of_row) o) is (rows_typed text room of_row (kind_at symbols from) needs)))
typed_reads {text} {symbols} all (opens {nesting = nesting} {from = from} is rest) (clause as_) = as_ _ _ (typed_reads all rest (subst (λ (o : Option Rule). RowIsTyped text nesting (kind_at symbols from) in_clause o) is (openings_typed text nesting (kind_at symbols from) (opening_of (kind_at symbols from)))))
typed_reads {text} {symbols} all (opens {nesting = nesting} {from = from} is rest) (type as_) = as_ _ _ (typed_reads all rest (subst (λ (o : Option Rule). RowIsTyped text nesting (kind_at symbols from) in_type o) is (type_starts_typed text nesting (kind_at symbols from) (type_start_of (kind_at symbols from)))))
typed_reads {symbols = symbols} all (joins {middle = middle} {one = one} first rest) (join is next) = typed_reads all rest (next one (kind_at symbols middle) (typed_reads all first is))

program_items : {room : ℕ} {line : Line} {tree : Phrase} → IsSequence room line tree → (items : Phrases) × (tree ≡ at (form.Sequence items) line) × AreItemsOf room items
program_items (sequence {items = items} all) = (items, refl, all)

-- every program's tree is canonical
pub canonical : (text : List ℕ) (tokens : List Token) (nesting : ℕ) (tree : Phrase) → HasTokens text tokens → IsProgram text nesting (symbols_of tokens) tree → (items : Phrases) × (tree ≡ at (form.Sequence items) (line_of 1)) × AreItemsOf nesting items
canonical text tokens nesting tree scans program = program_items (typed_reads (leaves scans) program (part tt))
