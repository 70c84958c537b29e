-- The check of a clause gives a typed one of no more mass than the clause weighs.
use Rattle.std.proofs.Common.{◌≡◌, ℕ, ◌+◌, ◌<◌, ◌≤◌, Bool, true, false, List, [], ◌∷◌, ◌++◌, arith, refl, subst}
use Rattle.std.specs.Prelude.{Option, Some, None, if◌then◌else◌, ◌^◌, nat_lt, nat_eq, length, pos}
use Rattle.std.specs.Str.{bytes_eq}
use Rattle.std.proofs.lemmas.Bool.Decides.{nat_tests}
use Rattle.ps_unit_laws.specs.ps_base.Limits.{most_fields, most_parameters}
use Rattle.ps_unit_laws.specs.ps_base.TyView.{TyView, TyViews}
use Rattle.ps_unit_laws.specs.ps_base.TyView as types
use Rattle.ps_unit_laws.specs.ps_base.declared.line.Line.{Line}
use Rattle.ps_leaf_laws.specs.ps_tree.Phrase.{NameAt, GroupAt, Phrase, at, Form, Phrases, none, more, MaybePhrase, absent, present, Arm, arm, Arms, no_arms, more_arms, WriteItem, item, WriteItems, no_items, more_items}
use Rattle.ps_leaf_laws.specs.ps_tree.Phrase as form
use Rattle.ps_unit_laws.specs.ps_program.declared.place.Place.TheVariants.{Plain}
use Rattle.ps_unit_laws.specs.ps_program.Assigning.{assignment}
use Rattle.ps_unit_laws.specs.ps_program.Node.{Param, Node, Nodes, body}
use Rattle.ps_unit_laws.specs.ps_program.Node as node
use Rattle.ps_unit_laws.specs.ps_typing.Names.{plain, scan, Meaning, local, class, library, Names, Declared, FieldOf, lookup, lookup_field, meant, field_meant, is_declared, is_field_declared, declare, declare_local, declare_field, inside, behind}
use Rattle.ps_unit_laws.specs.ps_typing.Checking.{Outcome, Gives, Refuses, ◌>>=◌, passes, wants, is_same, is_vector, is_equated, is_writable, is_comparable, isnt_void, is_present, line_of, name_in, introduced, types_of, with_fields, structure, used, with_params, parameters, is_of, assigned, field_at, field, field_name, together, Checker, like, check_each, check_args, count_types, with_args, elements, value_applied, scan_applied, name_applied, applied, literal, named_literal, first_type, check, check_form, checkers, check_if_any, check_arms, check_all, check_written}
use Rattle.ps_text_units.proofs.Weights.{over, over_small, small_over, one_small, weigh, weigh_form, weigh_all, weigh_maybe, weigh_arms, weigh_written, mass, mass_all, mass_arms, mass_params}

-- a choice, by its test
by_test : {A : Type 0} (P : A → Type 0) (b : Bool) (x y : A) → (b ≡ true → P x) → (b ≡ false → P y) → P (if b then x else y)
by_test P true x y on_true on_false = on_true refl
by_test P false x y on_true on_false = on_false refl

abbrev pub IsMeaning : Meaning → Type 0
IsMeaning (library (plain code params gives)) = over code ≡ 0
IsMeaning other = Unit {0}

abbrev pub IsField : FieldOf → Type 0
IsField f = over f.index ≡ 0

-- each field in scope, and each procedure of the library, has a number of 32 bits
pub record Known (names : Names) : Type 0 where
  pub means : (name : List ℕ) (meaning : Meaning) → meant names name ≡ Some meaning → IsMeaning meaning
  pub fields : (name : List ℕ) (f : FieldOf) → field_meant names name ≡ Some f → IsField f

-- what is given has no more than this, and the names after it are known
pub record Fine {A : Type 0} (m : A → ℕ) (n : ℕ) (of : A) (after : Names) : Type 0 where
  pub small : m of ≤ n
  pub known : Known after

abbrev pub Given : {A : Type 0} → (A → ℕ) → ℕ → Outcome A → Type 0
Given m n (Gives of ty after) = Fine m n of after
Given m n (Refuses fault) = Unit {0}

pub record Sound {A : Type 0} (m : A → ℕ) (n : ℕ) (o : Outcome A) : Type 0 where
  pub fine : Given m n o

refuses : {A : Type 0} {m : A → ℕ} {n : ℕ} {fault : _} → Sound m n (Refuses fault)
refuses = record { fine = tt }

gives : {A : Type 0} (m : A → ℕ) (n : ℕ) (of : A) (ty : TyView) (names : Names) → m of ≤ n → Known names → Sound m n (Gives of ty names)
gives m n of ty names h k = record { fine = record { small = h; known = k } }

ends : {n : ℕ} {tree : Node} {ty : TyView} {names : Names} → Known names → mass tree ≤ n → Sound mass n (Gives tree ty names)
ends {n = n} {tree = tree} {ty = ty} {names = names} k h = gives mass n tree ty names h k

next : {A B : Type 0} {m : A → ℕ} {n : ℕ} {m' : B → ℕ} {n' : ℕ} (o : Outcome A) (then_ : A → TyView → Names → Outcome B) → Sound m n o →
    ((of : A) (ty : TyView) (names : Names) → m of ≤ n → Known names → Sound m' n' (then_ of ty names)) → Sound m' n' (o >>= then_)
unfolding ◌>>=◌
next (Gives of ty names) then_ h after = after of ty names h.fine.small h.fine.known
next (Refuses fault) then_ h after = refuses

pub passed : {n : ℕ} (test : TyView → Bool) (t : TyView) (line : Line) (o : Outcome Node) → Sound mass n o → Sound mass n (passes test t line o)
unfolding passes
passed {n = n} test t line (Gives tree ty names) h = by_test (Sound mass n) (test ty) (Gives tree ty names) (Refuses _) (λ is. h) (λ isnt. refuses)
passed test t line (Refuses fault) h = refuses

-- a clause that has to pass a test, and then what follows
tested : {B : Type 0} {n : ℕ} {m' : B → ℕ} {n' : ℕ} (test : TyView → Bool) (t : TyView) (line : Line) (o : Outcome Node)
    (then_ : Node → TyView → Names → Outcome B) → Sound mass n o →
    ((tree : Node) (ty : TyView) (names : Names) → mass tree ≤ n → Known names → Sound m' n' (then_ tree ty names)) →
    Sound m' n' (passes test t line o >>= then_)
tested test t line o then_ h after = next (passes test t line o) then_ (passed test t line o h) after

wanted : {B : Type 0} {n : ℕ} {m' : B → ℕ} {n' : ℕ} (t : TyView) (line : Line) (o : Outcome Node) (then_ : Node → TyView → Names → Outcome B) →
    Sound mass n o → ((tree : Node) (ty : TyView) (names : Names) → mass tree ≤ n → Known names → Sound m' n' (then_ tree ty names)) →
    Sound m' n' (wants t line o >>= then_)
wanted t line o then_ h after = tested _ t line o then_ h after

-- a lookup in a list with one more at the start
pub lookup_more : (P : Meaning → Type 0) (d : Declared) (ds : List Declared) (name : List ℕ) (meaning : Meaning) → P d.meaning →
    (lookup ds name ≡ Some meaning → P meaning) → lookup (d ∷ ds) name ≡ Some meaning → P meaning
lookup_more P d ds name meaning here there is =
    by_test (λ (o : Option Meaning). o ≡ Some meaning → P meaning) (bytes_eq d.name name) (Some d.meaning) (lookup ds name)
    (λ same e. let same_meaning : d.meaning ≡ meaning = cc in subst P same_meaning here) (λ differs e. there e) is

pub lookup_field_more : (f : FieldOf) (fs : List FieldOf) (name : List ℕ) (found : FieldOf) → IsField f →
    (lookup_field fs name ≡ Some found → IsField found) → lookup_field (f ∷ fs) name ≡ Some found → IsField found
lookup_field_more f fs name found here there is =
    by_test (λ (o : Option FieldOf). o ≡ Some found → IsField found) (bytes_eq f.name name) (Some f) (lookup_field fs name)
    (λ same e. let same_field : f ≡ found = cc in subst IsField same_field here) (λ differs e. there e) is

known_declared : (names : Names) (name : List ℕ) (meaning : Meaning) → IsMeaning meaning → Known names → Known (declare names name meaning)
known_declared names name meaning is k = record {
  means = λ other found e. lookup_more IsMeaning _ (names.here ++ names.around) other found is (λ there. k.means other found there) e;
  fields = k.fields;
}

known_local : (names : Names) (name : List ℕ) (ty : TyView) (variable : Bool) → Known names → Known (declare_local names name ty variable)
known_local names name ty variable k = record {
  means = λ other found e. lookup_more IsMeaning _ (names.here ++ names.around) other found tt (λ there. k.means other found there) e;
  fields = k.fields;
}

known_field : (names : Names) (f : FieldOf) → IsField f → Known names → Known (declare_field names f)
known_field names f is k = record {
  means = k.means;
  fields = λ name found e. lookup_field_more f (names.fields_here ++ names.fields_around) name found is (λ there. k.fields name found there) e;
}

known_inside : (names : Names) → Known names → Known (inside names)
known_inside names k = record { means = k.means; fields = k.fields }

known_behind : (names last : Names) → Known names → Known last → Known (behind names last)
known_behind names last k last_k = record { means = k.means; fields = k.fields }

sound_with_fields : {n : ℕ} (names : Names) (text : List ℕ) (index : ℕ) (groups : List GroupAt) → index + length groups < 2 ^ 32 → 1 ≤ n → Known names →
    Sound mass n (with_fields names text index groups)
sound_with_fields names text index [] few one k = ends k (omega arith)
sound_with_fields {n = n} names text index (group ∷ groups) few one k =
    by_test (Sound mass n) (is_field_declared names group.name.name) _ _ (λ twice. refuses)
    (λ once. sound_with_fields _ text (index + 1) groups (omega arith) one (known_field names _ (over_small index (omega arith)) k))

pub is_few : (a b : ℕ) → nat_lt a b ≡ false → b ≤ a
is_few a b e = grind (arith, nat_tests)

sound_structure : {n : ℕ} (names : Names) (line : Line) (name : NameAt) (groups : List GroupAt) → 1 ≤ n → Known names →
    Sound mass n (structure names line name groups)
sound_structure {n = n} names line name groups one k =
    by_test (Sound mass n) (nat_lt most_fields (length groups)) _ _ (λ many. refuses) (λ few.
    by_test (Sound mass n) (is_declared names name.name) _ _ (λ twice. refuses) (λ once.
    sound_with_fields _ _ 0 groups (let h = is_few most_fields (length groups) few in omega arith) one (known_declared names name.name _ tt k)))

sound_used : {n : ℕ} (line : Line) (names : Names) (meaning : Option Meaning) → 1 ≤ n → Known names → Sound mass n (used line names meaning)
sound_used line names (Some (local number ty variable)) one k = ends k (omega arith)
sound_used line names (Some (class text fields)) one k = refuses
sound_used line names (Some (library procedure)) one k = refuses
sound_used line names None one k = refuses

sound_is_of : {n : ℕ} (name : NameAt) (negated : Bool) (e : Node) (names : Names) (meaning : Option Meaning) → 2 + mass e ≤ n → Known names →
    Sound mass n (is_of name negated e names meaning)
sound_is_of name true e names (Some (class text tys)) f k = ends k (omega arith)
sound_is_of name false e names (Some (class text tys)) f k = ends k (omega arith)
sound_is_of name negated e names (Some (local number ty variable)) f k = refuses
sound_is_of name negated e names (Some (library procedure)) f k = refuses
sound_is_of name negated e names None f k = refuses

sound_field_at : {n : ℕ} (line : Line) (p : Node) (names : Names) (name_line : Line) (found : Option FieldOf) → 1 + over line.0 + mass p ≤ n → Known names →
    ((f : FieldOf) → found ≡ Some f → IsField f) → Sound mass n (field_at line p names name_line found)
sound_field_at line p names name_line (Some found) f k h = ends k (let e = h found refl in omega arith)
sound_field_at line p names name_line None f k h = refuses

sound_field : {n : ℕ} (line : Line) (p : Node) (names : Names) (name : Option NameAt) → 1 + over line.0 + mass p ≤ n → Known names →
    Sound mass n (field line p names name)
sound_field line p names (Some name) f k =
    sound_field_at line p names name.line (field_meant names name.name) f k (λ found e. k.fields name.name found e)
sound_field line p names None f k = refuses

-- what these clauses are checked as, each with one more
abbrev AllSound : Phrases → List Checker → Type 0
AllSound none [] = Unit {0}
AllSound (more p ps) (first ∷ rest) = ((names : Names) → Known names → Sound mass (weigh p) (first.check names)) × AllSound ps rest
AllSound ps checks = ⊥

sound_each : (names : Names) (t : TyView) (items : Phrases) (clauses : List Checker) → AllSound items clauses → Known names →
    Sound mass_all (weigh_all items) (check_each names t clauses)
sound_each names t none [] h k = gives mass_all _ node.none t names (omega arith) k
sound_each names t (more p ps) (first ∷ rest) h k =
    wanted t _ _ _ (h.0 names k) (λ tree ty n f k. next _ _ (sound_each n t ps rest h.1 k)
    (λ trees last n g k. gives mass_all _ (node.more tree trees) t n (omega arith) k))
sound_each names t none (first ∷ rest) h k = absurd h
sound_each names t (more p ps) [] h k = absurd h

sound_args : (names : Names) (tys : TyViews) (items : Phrases) (args : List Checker) → AllSound items args → Known names →
    Sound mass_all (weigh_all items) (check_args names tys args)
sound_args names types.none items args h k = gives mass_all _ node.none types.Void names (omega arith) k
sound_args names (types.more t ts) (more p ps) (first ∷ rest) h k =
    wanted t _ _ _ (h.0 names k) (λ tree ty n f k. next _ _ (sound_args n ts ps rest h.1 k)
    (λ trees last n g k. gives mass_all _ (node.more tree trees) types.Void n (omega arith) k))
sound_args names (types.more t ts) none [] h k = gives mass_all _ node.none types.Void names (omega arith) k
sound_args names (types.more t ts) none (first ∷ rest) h k = absurd h
sound_args names (types.more t ts) (more p ps) [] h k = absurd h

sound_with_args : {n : ℕ} (names : Names) (line : Line) (tys : TyViews) (items : Phrases) (args : List Checker) (make : Nodes → Node) (ty : TyView) →
    AllSound items args → Known names → ((trees : Nodes) → mass_all trees ≤ weigh_all items → mass (make trees) ≤ n) →
    Sound mass n (with_args names line tys args make ty)
sound_with_args {n = n} names line tys items args make ty h k made =
    by_test (Sound mass n) (nat_eq (count_types tys) (length args)) _ _
    (λ same. next _ _ (sound_args names tys items args h k) (λ trees t n g k. ends k (made trees g)))
    (λ differ. refuses)

sound_elements : {n : ℕ} (names : Names) (line : Line) (v : Node) (t : TyView) (items : Phrases) (args : List Checker) →
    over line.0 ≡ 0 → mass v + weigh_all items ≤ n → Known names → AllSound items args → Sound mass n (elements names line v t args)
sound_elements names line v t none [] z f k h = ends k (omega arith)
sound_elements names line v (types.Vector element) (more p ps) (i ∷ rest) z f k h =
    wanted types.Int _ _ _ (h.0 names k) (λ i' int n g k. sound_elements n line (node.Element v i' element line) element ps rest z (omega arith) k h.1)
sound_elements names line v other (more p ps) (i ∷ rest) z f k h = refuses
sound_elements names line v t none (i ∷ rest) z f k h = absurd h
sound_elements names line v t (more p ps) [] z f k h = absurd h

sound_value_applied : {n : ℕ} (names : Names) (line : Line) (v : Node) (t : TyView) (items phrases : Phrases) (args : List Checker) →
    over line.0 ≡ 0 → 1 + mass v + weigh_all items ≤ n → Known names → AllSound items args → Sound mass n (value_applied names line v t phrases args)
sound_value_applied names line v (types.Proc tys ty) items phrases args z f k h =
    sound_with_args names line tys items args _ ty h k (λ trees g. omega arith)
sound_value_applied names line v (types.Vector element) items phrases [] z f k h = refuses
sound_value_applied names line v (types.Vector element) items phrases (i ∷ rest) z f k h =
    sound_elements names line v (types.Vector element) items (i ∷ rest) z (omega arith) k h
sound_value_applied names line v types.Pntr items phrases args z f k h = sound_field line v names (field_name phrases) (omega arith) k
sound_value_applied names line v other items phrases args z f k h = refuses

sound_scan_applied : {n : ℕ} (names : Names) (line : Line) (text : Bool) (items : Phrases) (args : List Checker) →
    over line.0 ≡ 0 → 1 + weigh_all items ≤ n → Known names → AllSound items args → Sound mass n (scan_applied names line text args)
sound_scan_applied names line text (more p (more q none)) (a ∷ f ∷ []) z e k h =
    wanted types.Pntr _ _ _ (h.0 names k) (λ a t n f k. wanted _ _ _ _ (h.1.0 n k) (λ b t' n' g k. ends k (omega arith)))
sound_scan_applied names line text items [] z e k h = refuses
sound_scan_applied names line text items (a ∷ []) z e k h = refuses
sound_scan_applied names line text items (a ∷ f ∷ g ∷ rest) z e k h = refuses
sound_scan_applied names line text none (a ∷ f ∷ []) z e k h = absurd h
sound_scan_applied names line text (more p none) (a ∷ f ∷ []) z e k h = absurd h.1
sound_scan_applied names line text (more p (more q (more r rest))) (a ∷ f ∷ []) z e k h = absurd h.1.1

sound_name_applied : {n : ℕ} (names : Names) (line name_line : Line) (meaning : Option Meaning) (items phrases : Phrases) (args : List Checker) →
    ((m : Meaning) → meaning ≡ Some m → IsMeaning m) → over line.0 ≡ 0 → 2 + weigh_all items ≤ n → Known names → AllSound items args →
    Sound mass n (name_applied names line name_line meaning phrases args)
sound_name_applied names line name_line (Some (class text tys)) items phrases args means z f k h =
    sound_with_args names line tys items args (node.Make text) types.Pntr h k (λ trees g. omega arith)
sound_name_applied names line name_line (Some (library (plain code tys ty))) items phrases args means z f k h =
    sound_with_args names line tys items args (λ trees. node.Lib code trees line) ty h k
    (λ trees g. let e : over code ≡ 0 = means (library (plain code tys ty)) refl in omega arith)
sound_name_applied names line name_line (Some (library (scan text))) items phrases args means z f k h =
    sound_scan_applied names line text items args z (omega arith) k h
sound_name_applied names line name_line (Some (local number t variable)) items phrases args means z f k h =
    sound_value_applied names line (node.Name (Plain number) t) t items phrases args z (omega arith) k h
sound_name_applied names line name_line None items phrases args means z f k h = refuses

some_weight : (p : Phrase) → 1 ≤ weigh p
some_weight (at f line) = omega arith

sound_applied : {n w : ℕ} (names : Names) (line name_line : Line) (name : Option (List ℕ)) (f : Outcome Node) (items phrases : Phrases) (args : List Checker) →
    Sound mass w f → over line.0 ≡ 0 → 1 + w + weigh_all items ≤ n → 1 ≤ w → Known names → AllSound items args →
    Sound mass n (applied names line name_line name f phrases args)
sound_applied names line name_line (Some name) f items phrases args f_sound z e one k h =
    sound_name_applied names line name_line (meant names name) items phrases args (λ m e. k.means name m e) z (omega arith) k h
sound_applied names line name_line None f items phrases args f_sound z e one k h =
    next _ _ f_sound (λ v t n g k. sound_value_applied n line v t items phrases args z (omega arith) k h)

-- the parameters of a procedure, which have plain places
one_param : (made : List Param) (ty : TyView) (slot : ℕ) → mass_params (made ++ record { ty = ty; place = Plain slot } ∷ []) ≡ mass_params made + 1
one_param [] ty slot = omega arith
one_param (first ∷ rest) ty slot = let h = one_param rest ty slot in omega arith

sound_params : {n : ℕ} (names : Names) (made : List Param) (groups : List GroupAt) → mass_params made + length groups ≤ n → Known names →
    Sound mass_params n (with_params names made groups)
sound_params {n = n} names made [] so_far k = gives mass_params n made types.Void names (omega arith) k
sound_params {n = n} names made (group ∷ groups) so_far k =
    by_test (Sound mass_params n) (is_declared names group.name.name) _ _ (λ twice. refuses)
    (λ once. sound_params _ _ groups (let e = one_param made group.ty (length names.all) in omega arith)
    (known_local names group.name.name group.ty true k))

sound_parameters : (names : Names) (line : Line) (groups : List GroupAt) → Known names → Sound mass_params 64 (parameters names line groups)
sound_parameters names line groups k = by_test (Sound mass_params 64) (nat_lt most_parameters (length groups)) _ _ (λ many. refuses)
    (λ few. sound_params (inside names) [] groups (let h = is_few most_parameters (length groups) few in omega arith) (known_inside names k))

sound_literal : {n w : ℕ} (names : Names) (line : Line) (groups : List GroupAt) (ty : TyView) (s_line : Line) (check_s : Names → Outcome Node) →
    ((own : Names) → Known own → Sound mass w (check_s own)) → 65 + w ≤ n → Known names →
    Sound mass n (literal names line groups ty s_line check_s)
sound_literal names line groups ty s_line check_s h e k =
    next _ _ (sound_parameters names line groups k) (λ made t own f own_k.
    wanted ty _ _ _ (h own own_k) (λ s t' last g last_k. ends (known_behind names last k last_k) (omega arith)))

sound_named_literal : {n w : ℕ} (names : Names) (name : NameAt) (variable : Bool) (line : Line) (groups : List GroupAt) (ty : TyView) (s_line : Line)
    (check_s : Names → Outcome Node) → ((own : Names) → Known own → Sound mass w (check_s own)) → 66 + w ≤ n →
    Known names → Sound mass n (named_literal names name variable line groups ty s_line check_s)
sound_named_literal {n = n} {w = w} names name variable line groups ty s_line check_s h e k =
    by_test (Sound mass n) (is_declared names name.name) _ _ (λ twice. refuses) (λ once.
    next {n = 65 + w} _ _ (sound_literal {n = 65 + w} _ line groups ty s_line check_s h (omega arith)
    (known_local names name.name (types.Proc (types_of groups) ty) variable k))
    (λ of t last g last_k. ends last_k (omega arith)))

sound_introduced : {n : ℕ} (name : NameAt) (variable : Bool) (e : Node) (ty : TyView) (names : Names) → 1 + mass e ≤ n → Known names →
    Sound mass n (introduced name variable e ty names)
sound_introduced {n = n} name variable e ty names f k =
    by_test (Sound mass n) (is_declared names name.name) _ _ (λ twice. refuses) (λ once. ends (known_local names name.name ty variable k) (omega arith))

-- `x := e`
sound_target : {n : ℕ} (line e_line : Line) (can : Bool) (tree : Node) (t found : TyView) (names : Names) → mass tree ≤ n → Known names →
    Sound mass n (assigned line e_line can (Some tree) t found names)
unfolding assigned
sound_target {n = n} line e_line true tree t found names f k = by_test (Sound mass n) (is_same found t) _ _ (λ same. ends k f) (λ differ. refuses)
sound_target line e_line false tree t found names f k = refuses

no_target : {n : ℕ} (line e_line : Line) (can : Bool) (t found : TyView) (names : Names) → Sound mass n (assigned line e_line can None t found names)
unfolding assigned
no_target line e_line true t found names = refuses
no_target line e_line false t found names = refuses

sound_assigned : {n : ℕ} (line e_line : Line) (can : Bool) (x e : Node) (t found : TyView) (names : Names) → mass x + mass e ≤ n → Known names →
    Sound mass n (assigned line e_line can (assignment x e) t found names)
sound_assigned line e_line can (node.Name place ty) e t found names f k =
    sound_target line e_line can (node.SetName place ty e) t found names (omega arith) k
sound_assigned line e_line can (node.Element v i ty l) e t found names f k =
    sound_target line e_line can (node.SetElement v i e ty l) t found names (omega arith) k
sound_assigned line e_line can (node.Field p of index ty l) e t found names f k =
    sound_target line e_line can (node.SetField p of index ty e l) t found names (omega arith) k
sound_assigned line e_line can other e t found names f k = no_target line e_line can t found names

all_together : (trees : Nodes) → mass (together trees) ≤ 1 + mass_all trees
all_together node.none = omega arith
all_together (node.more first node.none) = omega arith
all_together (node.more first (node.more second rest)) = omega arith

-- a clause that is like those before it
sound_like : {n : ℕ} (given : Option TyView) (line : Line) (o : Outcome Node) → Sound mass n o → Sound mass n (like given line o)
sound_like None line o h = h
sound_like (Some t) line o h = passed _ t line o h

mutual
  pub sound : (names : Names) (p : Phrase) → weigh p < 2 ^ 32 → Known names → Sound mass (weigh p) (check names p)
  sound names (at f line) h k = sound_form names line f h k

  sound_form : (names : Names) (line : Line) (f : Form) → 1 + over line.0 + weigh_form f < 2 ^ 32 → Known names →
      Sound mass (1 + over line.0 + weigh_form f) (check_form names line f)
  sound_form names line (form.Let name variable (at (form.Proc params ty s) e_line)) h k =
      sound_named_literal names name variable e_line params ty (line_of s) (λ own. check own s) (λ own k. sound own s (omega arith) k) (omega arith) k
  sound_form names line (form.Let name variable e) h k =
      tested isnt_void _ _ _ _ (sound names e (omega arith) k) (λ e t n f k. sound_introduced name variable e t n (omega arith) k)
  sound_form names line (form.Structure name fields) h k = sound_structure names line name fields (omega arith) k
  sound_form names line (form.Name name) h k = sound_used line names (meant names name) (omega arith) k
  sound_form names line form.Nil h k = ends k (omega arith)
  sound_form names line (form.Int value) h k = ends k (omega arith)
  sound_form names line (form.Text bytes) h k = ends k (omega arith)
  sound_form names line (form.Flag value) h k = ends k (omega arith)
  sound_form names line (form.IfDo c a) h k =
      wanted _ _ _ _ (sound names c (omega arith) k) (λ c t n f k. wanted _ _ _ _ (sound n a (omega arith) k) (λ a t n g k. ends k (omega arith)))
  sound_form names line (form.While c a) h k =
      wanted _ _ _ _ (sound names c (omega arith) k) (λ c t n f k. wanted _ _ _ _ (sound n a (omega arith) k) (λ a t n g k. ends k (omega arith)))
  sound_form names line (form.Repeat a c b) h k =
      wanted _ _ _ _ (sound names a (omega arith) k) (λ a t n f k.
      wanted _ _ _ _ (sound n c (omega arith) k) (λ c t n g k.
      next _ _ (sound_if_any n types.Void node.Empty b (omega arith) (omega arith) k) (λ b t n i k. ends k (omega arith))))
  sound_form names line (form.IfElse c a b) h k =
      wanted _ _ _ _ (sound names c (omega arith) k) (λ c t n f k.
      next _ _ (sound n a (omega arith) k) (λ a t n g k.
      wanted _ _ _ _ (sound n b (omega arith) k) (λ b same n i k. ends k (omega arith))))
  sound_form names line (form.For name a b c s) h k =
      wanted _ _ _ _ (sound names a (omega arith) k) (λ a t n f k.
      wanted _ _ _ _ (sound n b (omega arith) k) (λ b t n g k.
      next _ _ (sound_if_any n types.Int (node.Int (pos 1)) c (omega arith) (let e = one_small in omega arith) k) (λ c t n i k.
      wanted _ _ _ _ (sound (declare_local (inside n) name.name types.Int false) s (omega arith)
      (known_local (inside n) name.name types.Int false (known_inside n k)))
      (λ s t last j last_k. ends (known_behind n last k last_k) (omega arith)))))
  sound_form names line (form.Case e arms d) h k =
      tested is_equated _ _ _ _ (sound names e (omega arith) k) (λ e t n f k.
      next _ _ (sound_arms n t None arms (omega arith) k) (λ arms given n g k.
      next _ _ (sound_like (first_type arms given) _ _ (sound n d (omega arith) k)) (λ d given n i k. ends k (omega arith))))
  sound_form names line (form.Write items) h k =
      next _ _ (sound_written names items (omega arith) k) (λ trees t n f k. ends k (let e = all_together trees in omega arith))
  sound_form names line form.Abort h k = ends k (omega arith)
  sound_form names line (form.Proc params ty s) h k =
      sound_literal names line params ty (line_of s) (λ own. check own s) (λ own k. sound own s (omega arith) k) (omega arith) k
  sound_form names line (form.Vector l u e) h k =
      wanted _ _ _ _ (sound names l (omega arith) k) (λ l t n f k.
      wanted _ _ _ _ (sound n u (omega arith) k) (λ u t n g k.
      tested isnt_void _ _ _ _ (sound n e (omega arith) k) (λ e t n i k. ends k (omega arith))))
  sound_form names line (form.Elems l t items) h k =
      wanted _ _ _ _ (sound names l (omega arith) k) (λ l int n f k.
      next _ _ (sound_each n t items (checkers items) (all_sound items (omega arith)) k) (λ items last n g k. ends k (omega arith)))
  sound_form names line (form.Assign x e) h k =
      next _ _ (sound names x (omega arith) k) (λ x' t n f k.
      next _ _ (sound n e (omega arith) k) (λ e' found n g k. sound_assigned line (line_of e) _ x' e' t found n (omega arith) k))
  sound_form names line (form.Or a b) h k =
      wanted _ _ _ _ (sound names a (omega arith) k) (λ a t n f k. wanted _ _ _ _ (sound n b (omega arith) k) (λ b t n g k. ends k (omega arith)))
  sound_form names line (form.And a b) h k =
      wanted _ _ _ _ (sound names a (omega arith) k) (λ a t n f k. wanted _ _ _ _ (sound n b (omega arith) k) (λ b t n g k. ends k (omega arith)))
  sound_form names line (form.Not e) h k = wanted _ _ _ _ (sound names e (omega arith) k) (λ e t n f k. ends k (omega arith))
  sound_form names line (form.Compare op a b) h k =
      tested (is_comparable op) _ _ _ _ (sound names a (omega arith) k) (λ a t n f k. wanted _ _ _ _ (sound n b (omega arith) k) (λ b same n g k. ends k (omega arith)))
  sound_form names line (form.Is e name negated) h k =
      wanted _ _ _ _ (sound names e (omega arith) k) (λ e t n f k. sound_is_of name negated e n (meant n name.name) (omega arith) k)
  sound_form names line (form.Arith op a b) h k =
      wanted _ _ _ _ (sound names a (omega arith) k) (λ a t n f k. wanted _ _ _ _ (sound n b (omega arith) k) (λ b t n g k. ends k (omega arith)))
  sound_form names line (form.Plus e) h k = wanted _ _ _ _ (sound names e (omega arith) k) (λ e t n f k. ends k (omega arith))
  sound_form names line (form.Neg e) h k = wanted _ _ _ _ (sound names e (omega arith) k) (λ e t n f k. ends k (omega arith))
  sound_form names line (form.Join a b) h k =
      wanted _ _ _ _ (sound names a (omega arith) k) (λ a t n f k. wanted _ _ _ _ (sound n b (omega arith) k) (λ b t n g k. ends k (omega arith)))
  sound_form names line (form.Bound upper e) h k = tested is_vector _ _ _ _ (sound names e (omega arith) k) (λ e t n f k. ends k (omega arith))
  sound_form names line (form.Apply f args) h k =
      let small : line.0 < 2 ^ 32 = small_over line.0 (omega arith) in
      let z : over line.0 ≡ 0 = over_small line.0 small in
      let one : 1 ≤ weigh f = some_weight f in
      sound_applied {w = weigh f} names line (line_of f) (name_in f) (check names f) args args (checkers args)
      (sound names f (omega arith) k) z (omega arith) one k (all_sound args (omega arith))
  sound_form names line (form.Part s i n) h k =
      wanted _ _ _ _ (sound names s (omega arith) k) (λ s t names' f k.
      wanted _ _ _ _ (sound names' i (omega arith) k) (λ i t names' g k.
      wanted _ _ _ _ (sound names' n (omega arith) k) (λ n t names' j k. ends k (omega arith))))
  sound_form names line (form.Sequence items) h k =
      next _ _ (sound_all (inside names) line types.Void items (omega arith) (known_inside names k))
      (λ trees t last f last_k. ends (known_behind names last k last_k) (omega arith))

  all_sound : (items : Phrases) → weigh_all items < 2 ^ 32 → AllSound items (checkers items)
  all_sound none h = tt
  all_sound (more first rest) h = (λ names k. sound names first (omega arith) k, all_sound rest (omega arith))

  sound_if_any : (names : Names) (t : TyView) (otherwise : Node) (p : MaybePhrase) → weigh_maybe p < 2 ^ 32 → mass otherwise ≤ 1 → Known names →
      Sound mass (weigh_maybe p) (check_if_any names t otherwise p)
  sound_if_any names t otherwise absent h f k = ends k f
  sound_if_any names t otherwise (present e) h f k = passed _ t (line_of e) _ (sound names e h k)

  sound_arms : (names : Names) (t : TyView) (given : Option TyView) (arms : Arms) → weigh_arms arms < 2 ^ 32 → Known names →
      Sound mass_arms (weigh_arms arms) (check_arms names t given arms)
  sound_arms names t given no_arms h k = gives mass_arms _ node.no_arms types.Void names (omega arith) k
  sound_arms names t given (more_arms (arm labels a) rest) h k =
      next _ _ (sound_each names t labels (checkers labels) (all_sound labels (omega arith)) k) (λ labels same n f k.
      next _ _ (sound_like given _ _ (sound n a (omega arith) k)) (λ a own n g k.
      next _ _ (sound_arms n t (Some own) rest (omega arith) k)
      (λ rest last n i k. gives mass_arms _ (node.more_arms (node.arm labels a) rest) own n (omega arith) k)))

  sound_all : (names : Names) (line : Line) (before : TyView) (items : Phrases) → weigh_all items < 2 ^ 32 → Known names →
      Sound mass_all (weigh_all items) (check_all names line before items)
  sound_all names line before none h k = gives mass_all _ node.none before names (omega arith) k
  sound_all names line before (more clause rest) h k =
      by_test (Sound mass_all (weigh_all (more clause rest))) (is_same before types.Void) _ _
      (λ void. next _ _ (sound names clause (omega arith) k) (λ tree t n f k.
      next _ _ (sound_all n (line_of clause) t rest (omega arith) k) (λ trees last n g k. gives mass_all _ (node.more tree trees) last n (omega arith) k)))
      (λ value. refuses)

  sound_written : (names : Names) (items : WriteItems) → weigh_written items < 2 ^ 32 → Known names →
      Sound mass_all (weigh_written items) (check_written names items)
  sound_written names no_items h k = gives mass_all _ node.none types.Void names (omega arith) k
  sound_written names (more_items (item e w line) rest) h k =
      tested is_writable _ _ _ _ (sound names e (omega arith) k) (λ e t n f k.
      next _ _ (sound_if_any n types.Int node.Empty w (omega arith) (omega arith) k) (λ w wide n g k.
      next _ _ (sound_written n rest (omega arith) k) (λ rest last n i k.
      gives mass_all _ (node.more (node.Write e w (is_present wide) t line) rest) types.Void n (omega arith) k)))
