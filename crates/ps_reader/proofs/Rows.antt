-- How the reader's calls follow the rows of the grammar.
use Rattle.std.proofs.Common.{◌≡◌, ℕ, suc, List, [], ◌∷◌, ◌++◌, Bool, true, false, Option, Some, None, option_map, Result, Ok, Err, IfOk, IfErr, MatchResult, IsSome, slice_get, refl, sym, subst, ap, ◌∙◌}
use Rattle.ps_base.specs.TyView.{TyView, TyViews, and_type, ty_view, ty_views}
use Rattle.ps_base.specs.TyView as ty
use Rattle.ps_base.proofs.TyLemmas.{ty_views-append}
use Rattle.ps_base.specs.declared.ty.Ty.{Ty}
use Rattle.ps_tree.specs.declared.fault.ParseFault.{ParseFault}
use Rattle.ps_tree.specs.declared.fault.ParseFault.TheVariants.{TooNested, Memory}
use Rattle.ps_tree.specs.ps_symbols.declared.kind.Kind.{Kind}
use Rattle.ps_tree.specs.ps_symbols.declared.kind.Kind.TheVariants as kind
use Rattle.ps_tree.specs.ps_symbols.declared.kind.TypeStart.{TypeStart}
use Rattle.ps_tree.specs.declared.rough.Group.{Group}
use Rattle.ps_tree.specs.declared.rough.Named.{Named}
use Rattle.std.proofs.lemmas.List.{append_assoc, append-nil}
use Rattle.ps_tree.specs.ps_symbols.declared.symbol.Symbol.{Symbol}
use Rattle.ps_tree.specs.ps_symbols.Kinds.{begins_type, type_start_of}
use Rattle.ps_tree.specs.Phrase.{GroupAt, NameAt, group_of, groups_in, names_in, of_type}
use Rattle.ps_reader.specs.Grammar.{Give, Go, Groups, Made, MoreGroups, Nested, Open, ParameterTypes, Parameters, Part, Rule, a_clause_inside, a_type, a_type_inside, all_groups, all_types, inside, more_groups, more_types, next_group, parameter_types, parameters, result, row, typed_as}
use Rattle.ps_reader.specs.Reading.{kind_at, kind_of_next, Reads}
use Rattle.ps_reader.specs.inside.Parsing.{next_groups}
use Rattle.ps_reader.specs.inside.Stopping.{HaltsWith, Continues}
use Rattle.ps_reader.specs.Faults.{unexpected}
use Rattle.ps_tree.proofs.PhraseLemmas.{groups_in-append, names_in-append}
use Rattle.ps_reader.proofs.Steps.{given, reads_as_this, by_row, on, same}

-- where the kinds that a part asks for aren't there

pub groups_other : (of_last : TyView) (before : List GroupAt) (k : Kind) → (k ≡ kind.Comma → ⊥) → (k ≡ kind.Semicolon → ⊥) → more_groups of_last before k ≡ Give (all_groups before)
groups_other of_last before kind.Comma not_Comma not_Semicolon = absurd (not_Comma refl)
groups_other of_last before kind.Semicolon not_Comma not_Semicolon = absurd (not_Semicolon refl)
groups_other of_last before _ not_Comma not_Semicolon = refl

pub next_group_other : (text : List ℕ) (of_last : TyView) (before : List GroupAt) (k : Kind) → (k ≡ kind.Name → ⊥) → next_group text of_last before k ≡ Go (Groups before)
next_group_other text of_last before kind.Name not_Name = absurd (not_Name refl)
next_group_other text of_last before _ not_Name = refl

pub result_other : (k : Kind) → (k ≡ kind.Arrow → ⊥) → result k ≡ Give (a_type ty.Void)
result_other kind.Arrow not_Arrow = absurd (not_Arrow refl)
result_other _ not_Arrow = refl

pub types_other : (before : TyViews) (k : Kind) → (k ≡ kind.Comma → ⊥) → more_types before k ≡ Give (all_types before)
types_other before kind.Comma not_Comma = absurd (not_Comma refl)
types_other before _ not_Comma = refl

some_of : (o : Option Rule) → IsSome o → (rule : Rule) × (o ≡ Some rule)
some_of (Some rule) is = (rule, refl)
some_of None is = absurd (cc)

nothing_at_end : (text : List ℕ) (nested : Nested) → IsSome (inside text nested kind.EndOfText) → ⊥
nothing_at_end text a_clause_inside is = cc
nothing_at_end text a_type_inside is = cc

pub too_deep : (text : List ℕ) (count : ℕ) (symbols : List Symbol) (from : ℕ) (nested : Nested) (symbol : Symbol) → Some symbol ≡ slice_get symbols from → IsSome (inside text nested (kind_at symbols from)) → HaltsWith text count symbols 0 (Open nested) from (TooNested symbol.token.line)
too_deep text count symbols from nested symbol here stands =
    let found = some_of (inside text nested (kind_at symbols from)) stands in
    HaltsWith.no_room (sym here) (ap (λ (o : Option Symbol). inside text nested (kind_of_next o)) here ∙ found.1) refl

pub none_too_deep : (text : List ℕ) (count : ℕ) (symbols : List Symbol) (from : ℕ) (nested : Nested) (fault : ParseFault) → None ≡ slice_get symbols from → IsSome (inside text nested (kind_at symbols from)) → HaltsWith text count symbols 0 (Open nested) from fault
none_too_deep text count symbols from nested fault here stands =
    absurd (nothing_at_end text nested (subst (λ (o : Option Symbol). IsSome (inside text nested (kind_of_next o))) (sym here) stands))

-- a clause or a type is opened, and leaves less room
module _ (text : List ℕ) (count : ℕ) (symbols : List Symbol) where
  pub opens : {A : Type 0} (view : A → Made) (result : Result A ParseFault) (room less from to : ℕ) (nested : Nested) (rule : Rule) → MatchResult result (λ made. Continues text count symbols less rule from (Give (view made)) to) (λ fault. HaltsWith text count symbols less rule from fault) → room ≡ suc less → inside text nested (kind_at symbols from) ≡ Some rule → MatchResult result (λ made. Continues text count symbols room (Open nested) from (Give (view made)) to) (λ fault. HaltsWith text count symbols room (Open nested) from fault)
  opens view (Ok made) room less from to nested rule goes room_is is = subst (λ (r : ℕ). Continues text count symbols r (Open nested) from (Give (view made)) to) (sym room_is) (given (Reads.opens is (reads_as_this goes)) goes.forward)
  opens view (Err fault) room less from to nested rule halts room_is is = subst (λ (r : ℕ). HaltsWith text count symbols r (Open nested) from fault) (sym room_is) (HaltsWith.in_nested is halts)

  pub type_opens : (from : ℕ) {found : Kind} {start : Option TypeStart} {s : TypeStart} → found ≡ kind_at symbols from → start ≡ type_start_of found → start ≡ Some s → inside text a_type_inside (kind_at symbols from) ≡ Some (typed_as s)
  type_opens from here is some = ap (λ (k : Kind). option_map typed_as (type_start_of k)) (sym here) ∙ ap (λ (o : Option TypeStart). option_map typed_as o) (sym is ∙ some)

module _ {text : List ℕ} {count : ℕ} {symbols : List Symbol} where
  -- a part begins with a token of a kind that has been found there
  pub goes_as : {room from : ℕ} {part : Part} {found kind : Kind} {rule : Rule} → found ≡ kind_at symbols from → found ≡ kind → row text part kind ≡ Some rule → Continues text count symbols room (Go part) from rule from
  goes_as {room} {from} {part} {found} {kind} here is row_is = by_row (ap (λ (k : Kind). row text part k) (sym here ∙ is) ∙ row_is)

  -- a part is this rule by the kind that has been found there
  pub goes_by : {room from : ℕ} {part : Part} {found : Kind} {rule : Rule} → found ≡ kind_at symbols from → row text part found ≡ Some rule → Continues text count symbols room (Go part) from rule from
  goes_by {room} {from} {part} {found} here is = by_row (ap (λ (k : Kind). row text part k) (sym here) ∙ is)

  pub halts_by : {room from : ℕ} {part : Part} {found : Kind} {fault : ParseFault} → found ≡ kind_at symbols from → row text part found ≡ None → fault ≡ unexpected text count (slice_get symbols from) → HaltsWith text count symbols room (Go part) from fault
  halts_by {room} {from} {part} {found} here is fault_is = HaltsWith.no_part (ap (λ (k : Kind). row text part k) (sym here) ∙ is) fault_is

  pub types_stand : {room from : ℕ} {found : Kind} → found ≡ kind_at symbols from → (stand : Bool) → stand ≡ begins_type found → Continues text count symbols room (Go ParameterTypes) from (parameter_types stand) from
  types_stand {found = found} here stand is = goes_by here (ap (λ (b : Bool). Some (parameter_types b)) (sym is))

  pub parameters_stand : {room from : ℕ} {found : Kind} → found ≡ kind_at symbols from → (stand : Bool) → stand ≡ begins_type found → Continues text count symbols room (Go Parameters) from (parameters stand) from
  parameters_stand {found = found} here stand is = goes_by here (ap (λ (b : Bool). Some (parameters b)) (sym is))

  -- a type that is made at the end is what the rule is read as
  pub built_type : (result : Result Ty ParseFault) {room from to : ℕ} {rule : Rule} {type : TyView} → IfOk result (λ made. ty_view made ≡ type) → IfErr result (λ fault. fault ≡ Memory) → Continues text count symbols room rule from (Give (a_type type)) to → MatchResult result (λ made. Continues text count symbols room rule from (Give (a_type (ty_view made))) to) (λ fault. HaltsWith text count symbols room rule from fault)
  built_type (Ok made) is memory goes = on goes (same (ap (λ (t : TyView). Give (a_type t)) (sym is)))
  built_type (Err fault) is memory goes = HaltsWith.out_of_memory memory

  -- a name that is declared is the one that stands there
  pub same_name : {room from : ℕ} (next : NameAt → Rule) {name other : NameAt} → other ≡ name → Continues text count symbols room (next name) from (next other) from
  same_name next is = same (ap next (sym is))

  pub types_again : {room from : ℕ} (next : TyViews → Rule) (before : List Ty) (last : Ty) {made : List Ty} → made ≡ before ++ last ∷ [] → Continues text count symbols room (next (and_type (ty_views before) (ty_view last))) from (next (ty_views made)) from
  types_again next before last is = same (ap next (sym (ap ty_views is ∙ ty_views-append before last)))

  pub types_first : {room from : ℕ} (next : TyViews → Rule) (before : List Ty) (last : Ty) {made : List Ty} → before ≡ [] → made ≡ before ++ last ∷ [] → Continues text count symbols room (next (ty.more (ty_view last) ty.none)) from (next (ty_views made)) from
  types_first next before last empty is = same (ap (λ (all : List Ty). next (and_type (ty_views all) (ty_view last))) (sym empty) ∙ ap next (sym (ap ty_views is ∙ ty_views-append before last)))

  pub groups_begin : {room from : ℕ} (next : List GroupAt → Rule) {made : List Group} → made ≡ [] → Continues text count symbols room (next []) from (next (groups_in made)) from
  groups_begin next is = same (ap (λ (made : List Group). next (groups_in made)) (sym is))

  pub groups_again : {room from : ℕ} (next : List GroupAt → Rule) (before : List Group) (last : Group) {first : GroupAt} {others : List GroupAt} {made : List Group} → group_of last ≡ first ∷ others → made ≡ before ++ last ∷ [] → Continues text count symbols room (next ((groups_in before ++ first ∷ []) ++ others)) from (next (groups_in made)) from
  groups_again next before last {first = first} {others = others} group is = same (ap next (append_assoc (groups_in before) (first ∷ []) others ∙ ap (λ (all : List GroupAt). groups_in before ++ all) (sym group) ∙ sym (ap groups_in is ∙ groups_in-append before last)))

  -- after the first name of a group there are no further ones yet
  pub further : {room from : ℕ} (t : TyView) (before : List GroupAt) (none_yet : List Named) → none_yet ≡ [] → Continues text count symbols room (Go (MoreGroups t before)) from (Go (MoreGroups t (before ++ names_in t none_yet))) from
  further t before none_yet is = same (ap (λ (all : List GroupAt). Go (MoreGroups t all)) (sym (ap (λ (names : List Named). before ++ names_in t names) is ∙ append-nil before)))

  -- one name more of a group
  pub names_again : {room from : ℕ} (next : List GroupAt → Rule) (t : TyView) (before : List GroupAt) (names : List Named) (last : Named) {made : List Named} → made ≡ names ++ last ∷ [] → Continues text count symbols room (next ((before ++ names_in t names) ++ of_type t last ∷ [])) from (next (before ++ names_in t made)) from
  names_again next t before names last is = same (ap next (append_assoc before (names_in t names) (of_type t last ∷ []) ∙ ap (λ (all : List GroupAt). before ++ all) (sym (ap (names_in t) is ∙ names_in-append t names last))))

-- whether there is a next group
pub no_next : (before : List GroupAt) {goes_on : Bool} → goes_on ≡ false → next_groups before goes_on ≡ Give (all_groups before)
no_next before is = ap (next_groups before) is

pub has_next : (before : List GroupAt) {goes_on : Bool} → goes_on ≡ true → next_groups before goes_on ≡ Go (Groups before)
has_next before is = ap (next_groups before) is
