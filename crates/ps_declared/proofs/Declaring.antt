-- Parameters, fields and their types, one by one.
use Rattle.std.proofs.Common.{◌≡◌, ◌<◌, ◌≤◌, ◌+◌, ℕ, true, false, nat_lt, arith, List, [], ◌∷◌, ◌++◌, length, map, take, slice_index_or, append_assoc, refl, sym, ap, ◌∙◌}
use Rattle.std.proofs.lemmas.List.{take_more, map-append, length-map}
use Rattle.std.proofs.lemmas.Bool.Decides.{nat_tests}
use Rattle.ps_base.specs.TyView.{TyView, TyViews, Void, more, and_type, ty_view, ty_views}
use Rattle.ps_base.specs.declared.ty.Ty.{Ty}
use Rattle.ps_base.proofs.TyLemmas.{ty_views-append}
use Rattle.ps_program.specs.Node.{Param}
use Rattle.ps_tree.specs.Phrase.{GroupAt, groups_in, names_in, of_type}
use Rattle.ps_tree.specs.Phrase as phrase
use Rattle.ps_tree.specs.declared.rough.Group.{Group}
use Rattle.ps_tree.specs.declared.rough.Named.{Named}
use Rattle.ps_tree.proofs.PhraseLemmas.{groups_in-append, names_in-append}
use Rattle.ps_type_text.specs.Texts.{Field}
use Rattle.ps_type_text.specs.Members.{fields_of}
use Rattle.ps_type_text.specs.Members as members
use Rattle.ps_type_text.specs.declared.classes.Member.{Member}
use Rattle.ps_scope.specs.ps_typing.Fault.{Twice}
use Rattle.ps_scope.specs.ps_typing.Names.{Names, declare_local, declare_field, is_declared, is_field_declared}
use Rattle.ps_scope.specs.ps_typing.Checking.{◌>>=◌, types_of, field_of, with_params, with_fields}
use Rattle.ps_declared.specs.declared.declarators.Declarator.{Declarator}
use Rattle.ps_declared.specs.inside.Declaring.{one_param, one_field}
use Rattle.ps_declared.specs.inside.Views.{group_of, groups_of}
use Rattle.ps_declared.proofs.Steps.{chosen}

pub params_step : (names : Names) (made : List Param) (group : GroupAt) (groups : List GroupAt) → with_params names made (group ∷ groups) ≡ (one_param names group >>= λ param t n. with_params n (made ++ param ∷ []) groups)
params_step names made group groups =
    sym (chosen (is_declared names group.name.name) (Twice group.name.line) _ Void (declare_local names group.name.name group.ty true) (λ param t n. with_params n (made ++ param ∷ []) groups))

pub fields_step : (names : Names) (text : List ℕ) (index : ℕ) (group : GroupAt) (groups : List GroupAt) → with_fields names text index (group ∷ groups) ≡ (one_field names text index group >>= λ class t n. with_fields n text (index + 1) groups)
fields_step names text index group groups =
    sym (chosen (is_field_declared names group.name.name) (Twice group.name.line) _ Void (declare_field names _) (λ class t n. with_fields n text (index + 1) groups))

types_of-append : (groups : List GroupAt) (group : GroupAt) → types_of (groups ++ group ∷ []) ≡ and_type (types_of groups) group.ty
types_of-append [] group = refl
types_of-append (first ∷ groups) group = ap (λ (ts : TyViews). more first.ty ts) (types_of-append groups group)

pub type_step : (all : List Declarator) (i : ℕ) (d : Declarator) (before after : List Ty) (made : Ty) → i < length all → ty_views before ≡ types_of (groups_of (take i all)) → after ≡ before ++ made ∷ [] → ty_view made ≡ ty_view (slice_index_or all i d).ty.now → ty_views after ≡ types_of (groups_of (take (i + 1) all))
type_step all i d before after made inside same is one =
    ap ty_views is ∙ ty_views-append before made
    ∙ ap (λ ts. and_type ts (ty_view made)) same ∙ ap (and_type (types_of (groups_of (take i all)))) one
    ∙ sym (ap types_of (ap groups_of (take_more all i d inside) ∙ map-append group_of (take i all) (slice_index_or all i d ∷ [])) ∙ types_of-append (groups_of (take i all)) (group_of (slice_index_or all i d)))

pub member_step : (all : List Declarator) (i : ℕ) (d : Declarator) (before after : List Member) (made : Member) → i < length all → fields_of before ≡ map field_of (groups_of (take i all)) → after ≡ before ++ made ∷ [] → members.field_of made ≡ field_of (group_of (slice_index_or all i d)) → fields_of after ≡ map field_of (groups_of (take (i + 1) all))
member_step all i d before after made inside same is one =
    ap fields_of is ∙ map-append members.field_of before (made ∷ [])
    ∙ ap (λ (fs : List Field). fs ++ members.field_of made ∷ []) same ∙ ap (λ f. map field_of (groups_of (take i all)) ++ f ∷ []) one
    ∙ sym (ap (map field_of) (ap groups_of (take_more all i d inside) ∙ map-append group_of (take i all) (slice_index_or all i d ∷ [])) ∙ map-append field_of (groups_of (take i all)) (group_of (slice_index_or all i d) ∷ []))

abbrev pub field_with : TyView → List ℕ → Field
field_with ty name = record { ty = ty; name = name }

-- one declarator more
pub declarator_step : (made after : List Declarator) (one : Declarator) (first rest : List GroupAt) (group : GroupAt) → groups_of made ≡ first ++ rest → after ≡ made ++ one ∷ [] → group_of one ≡ group → groups_of after ≡ first ++ (rest ++ group ∷ [])
declarator_step made after one first rest group same is one_is =
    ap groups_of is ∙ map-append group_of made (one ∷ []) ∙ ap (λ (gs : List GroupAt). gs ++ group_of one ∷ []) same ∙ ap (λ g. (first ++ rest) ++ g ∷ []) one_is ∙ append_assoc first rest (group ∷ [])

pub name_step : (ty : TyView) (names : List Named) (i : ℕ) (d : Named) → i < length names → names_in ty (take (i + 1) names) ≡ names_in ty (take i names) ++ of_type ty (slice_index_or names i d) ∷ []
name_step ty names i d inside = ap (names_in ty) (take_more names i d inside) ∙ names_in-append ty (take i names) (slice_index_or names i d)

pub group_step : (groups : List Group) (i : ℕ) (d : Group) → i < length groups → groups_in (take (i + 1) groups) ≡ groups_in (take i groups) ++ phrase.group_of (slice_index_or groups i d)
group_step groups i d inside = ap groups_in (take_more groups i d inside) ∙ groups_in-append (take i groups) (slice_index_or groups i d)

-- as many names as are allowed, and more
pub few : (all : List Declarator) (groups : List GroupAt) (n : ℕ) → groups_of all ≡ groups → n ≡ length all → n ≤ 64 → nat_lt 64 (length groups) ≡ false
few all groups n is at past =
    let size : length groups ≡ n = sym (ap length is) ∙ length-map all group_of ∙ sym at in
    ap (nat_lt 64) size ∙ small n past
  where
    small : (n : ℕ) → n ≤ 64 → nat_lt 64 n ≡ false
    small n past = grind (arith, nat_tests)

pub many : (all : List Declarator) (groups : List GroupAt) (n : ℕ) → groups_of all ≡ groups → n ≡ length all → 64 < n → nat_lt 64 (length groups) ≡ true
many all groups n is at past =
    let size : length groups ≡ n = sym (ap length is) ∙ length-map all group_of ∙ sym at in
    ap (nat_lt 64) size ∙ large n past
  where
    large : (n : ℕ) → 64 < n → nat_lt 64 n ≡ true
    large n past = grind (arith, nat_tests)

pub count_is : (all : List Declarator) (groups : List GroupAt) (n : ℕ) → groups_of all ≡ groups → n ≡ length all → n ≡ length groups
count_is all groups n is at = at ∙ sym (length-map all group_of) ∙ ap length is
