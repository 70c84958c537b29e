-- What the check of a clause gives fits, where the leaves of the clause do.
use Rattle.std.proofs.Common.{◌≡◌, ℕ, ◌+◌, Bool, true, false, List, [], ◌∷◌, ◌++◌, inl, inr, arith, refl, sym, ap, ◌∙◌, subst}
use Rattle.std.specs.List.{AllByRecursion}
use Rattle.std.specs.Prelude.{Option, Some, None, if◌then◌else◌, nat_lt, nat_eq, length, pos, map}
use Rattle.std.specs.Str.{bytes_eq}
use Rattle.std.proofs.lemmas.Bool.{eqb-true}
use Rattle.std.proofs.lemmas.List.{append_assoc, length-append}
use Rattle.ps_leaf_laws.specs.ps_base.Limits.{most_fields, most_parameters}
use Rattle.ps_leaf_laws.specs.ps_base.TyView.{TyView, TyViews}
use Rattle.ps_leaf_laws.specs.ps_base.TyView as types
use Rattle.ps_leaf_laws.specs.ps_base.declared.line.Line.{Line}
use Rattle.ps_leaf_laws.specs.ps_tree.Phrase.{NameAt, GroupAt, Phrase, at, Form, Phrases, none, more, MaybePhrase, absent, present, Arm, arm, Arms, no_arms, more_arms, WriteItem, item, WriteItems, no_items, more_items}
use Rattle.ps_leaf_laws.specs.ps_tree.Phrase as form
use Rattle.ps_leaf_laws.specs.ps_program.declared.place.Place.TheVariants.{Plain}
use Rattle.ps_leaf_laws.specs.ps_program.Assigning.{assignment}
use Rattle.ps_leaf_laws.specs.ps_program.Node.{Param, Node, Nodes, body}
use Rattle.ps_leaf_laws.specs.ps_program.Node as node
use Rattle.ps_leaf_laws.specs.ps_type_text.Texts.{Field, class_text, IsName, IsNamed}
use Rattle.ps_leaf_laws.specs.ps_typing.Names.{plain, scan, Meaning, local, class, library, Names, Declared, FieldOf, lookup, lookup_field, meant, field_meant, is_declared, is_field_declared, declare, declare_local, declare_field, inside, behind}
use Rattle.ps_leaf_laws.specs.ps_typing.Checking.{Outcome, Gives, Refuses, ◌>>=◌, passes, wants, is_same, is_vector, is_equated, is_writable, is_comparable, isnt_void, is_present, line_of, name_in, introduced, types_of, field_of, with_fields, structure, used, with_params, parameters, is_of, assigned, field_at, field, field_name, together, Checker, like, check_each, check_args, count_types, with_args, elements, value_applied, scan_applied, name_applied, applied, literal, named_literal, first_type, check, check_form, checkers, check_if_any, check_arms, check_all, check_written}
use Rattle.ps_leaf_laws.specs.ps_typing.WellTyped.{At, IsOfType, types_of_fields, types_of_params}
use Rattle.ps_leaf_laws.specs.ps_soundness.Valued.{IsValued, IsGiven, AllValued}
use Rattle.ps_leaf_laws.specs.ps_soundness.Running.{IsClassText, HasField, AreAsMany, HasAsMany}
use Rattle.ps_leaf_laws.specs.Leaves.{AreGroups, LeavesFit, LeavesFitIn, LeavesFitInAll, LeavesFitInMaybe, LeavesFitInArms, LeavesFitInWritten}
use Rattle.ps_fit_laws.specs.Fitting.{Fits, AllFit, ArmsFit}

-- a choice, by its test
by_test : {A : Type 0} (P : A → Type 0) (b : Bool) (x y : A) → (b ≡ true → P x) → (b ≡ false → P y) → P (if b then x else y)
by_test P true x y on_true on_false = on_true refl
by_test P false x y on_true on_false = on_false refl

-- the text is that of a class whose names are names of a text and whose fields have these types
pub record HasTypes (text : List ℕ) (tys : TyViews) : Type 0 where
  pub class : IsClassText text
  pub types_are : tys ≡ types_of_fields class.fields

-- what a name in scope means
abbrev pub IsMeaning : Meaning → Type 0
IsMeaning (local number ty variable) = Unit {0}
IsMeaning (class text tys) = HasTypes text tys
IsMeaning (library procedure) = Unit {0}

-- names of a text
abbrev pub AllNamed : List Field → Type 0
AllNamed names = AllByRecursion (λ (field : Field). IsName field.name) names

and_named : (names : List Field) (last : Field) → AllNamed names → IsName last.name → AllNamed (names ++ last ∷ [])
and_named [] last h is = (is, tt)
and_named (first ∷ rest) last h is = (h.0, and_named rest last h.1 is)

-- Each class in scope has names of a text, and each field in scope is one of such a class. All locals have names of a text.
pub record Known (names : Names) : Type 0 where
  pub means : (name : List ℕ) (meaning : Meaning) → meant names name ≡ Some meaning → IsMeaning meaning
  pub fields : (name : List ℕ) (f : FieldOf) → field_meant names name ≡ Some f → HasField f.class f.index f.ty
  pub named : AllNamed names.all

-- what is given is such, and the names after it are known
pub record Fine {A : Type 0} (P : A → Type 0) (of : A) (after : Names) : Type 0 where
  pub fits : P of
  pub known : Known after

abbrev pub Given : {A : Type 0} → (A → Type 0) → Outcome A → Type 0
Given P (Gives of ty after) = Fine P of after
Given P (Refuses fault) = Unit {0}

pub record Sound {A : Type 0} (P : A → Type 0) (o : Outcome A) : Type 0 where
  pub fine : Given P o

refuses : {A : Type 0} {P : A → Type 0} {fault : _} → Sound P (Refuses fault)
refuses = record { fine = tt }

gives : {A : Type 0} (P : A → Type 0) (of : A) (ty : TyView) (names : Names) → P of → Known names → Sound P (Gives of ty names)
gives P of ty names h k = record { fine = record { fits = h; known = k } }

ends : {tree : Node} {ty : TyView} {names : Names} → Known names → Fits tree → Sound Fits (Gives tree ty names)
ends {tree = tree} {ty = ty} {names = names} k h = gives Fits tree ty names h k

next : {A B : Type 0} {P : A → Type 0} {Q : B → Type 0} (o : Outcome A) (then_ : A → TyView → Names → Outcome B) → Sound P o →
    ((of : A) (ty : TyView) (names : Names) → P of → Known names → Sound Q (then_ of ty names)) → Sound Q (o >>= then_)
unfolding ◌>>=◌
next (Gives of ty names) then_ h after = after of ty names h.fine.fits h.fine.known
next (Refuses fault) then_ h after = refuses

pub passed : (test : TyView → Bool) (t : TyView) (line : Line) (o : Outcome Node) → Sound Fits o → Sound Fits (passes test t line o)
unfolding passes
passed test t line (Gives tree ty names) h = by_test (Sound Fits) (test ty) (Gives tree ty names) (Refuses _) (λ is. h) (λ isnt. refuses)
passed test t line (Refuses fault) h = refuses

-- a clause that has to pass a test, and then what follows
tested : {B : Type 0} {Q : B → Type 0} (test : TyView → Bool) (t : TyView) (line : Line) (o : Outcome Node)
    (then_ : Node → TyView → Names → Outcome B) → Sound Fits o →
    ((tree : Node) (ty : TyView) (names : Names) → Fits tree → Known names → Sound Q (then_ tree ty names)) →
    Sound Q (passes test t line o >>= then_)
tested test t line o then_ h after = next {P = Fits} (passes test t line o) then_ (passed test t line o h) after

wanted : {B : Type 0} {Q : B → Type 0} (t : TyView) (line : Line) (o : Outcome Node) (then_ : Node → TyView → Names → Outcome B) → Sound Fits o →
    ((tree : Node) (ty : TyView) (names : Names) → Fits tree → Known names → Sound Q (then_ tree ty names)) → Sound Q (wants t line o >>= then_)
wanted t line o then_ h after = tested _ t line o then_ h after

-- a lookup in a list with one more at the start
pub lookup_more : (P : Meaning → Type 0) (d : Declared) (ds : List Declared) (name : List ℕ) (meaning : Meaning) → P d.meaning →
    (lookup ds name ≡ Some meaning → P meaning) → lookup (d ∷ ds) name ≡ Some meaning → P meaning
lookup_more P d ds name meaning here there is =
    by_test (λ (o : Option Meaning). o ≡ Some meaning → P meaning) (bytes_eq d.name name) (Some d.meaning) (lookup ds name)
    (λ same e. let same_meaning : d.meaning ≡ meaning = cc in subst P same_meaning here) (λ differs e. there e) is

abbrev pub IsField : FieldOf → Type 0
IsField f = HasField f.class f.index f.ty

pub lookup_field_more : (f : FieldOf) (fs : List FieldOf) (name : List ℕ) (found : FieldOf) → IsField f →
    (lookup_field fs name ≡ Some found → IsField found) → lookup_field (f ∷ fs) name ≡ Some found → IsField found
lookup_field_more f fs name found here there is =
    by_test (λ (o : Option FieldOf). o ≡ Some found → IsField found) (bytes_eq f.name name) (Some f) (lookup_field fs name)
    (λ same e. let same_field : f ≡ found = cc in subst IsField same_field here) (λ differs e. there e) is

known_declared : (names : Names) (name : List ℕ) (meaning : Meaning) → IsMeaning meaning → Known names → Known (declare names name meaning)
known_declared names name meaning is k = record {
  means = λ other found e. lookup_more IsMeaning _ (names.here ++ names.around) other found is (λ there. k.means other found there) e;
  fields = k.fields;
  named = k.named;
}

known_local : (names : Names) (name : List ℕ) (ty : TyView) (variable : Bool) → IsName name → Known names → Known (declare_local names name ty variable)
known_local names name ty variable is k = record {
  means = λ other found e. lookup_more IsMeaning _ (names.here ++ names.around) other found tt (λ there. k.means other found there) e;
  fields = k.fields;
  named = and_named names.all (record { ty = ty; name = name }) k.named is;
}

known_field : (names : Names) (f : FieldOf) → IsField f → Known names → Known (declare_field names f)
known_field names f is k = record {
  means = k.means;
  fields = λ name found e. lookup_field_more f (names.fields_here ++ names.fields_around) name found is (λ there. k.fields name found there) e;
  named = k.named;
}

known_inside : (names : Names) → Known names → Known (inside names)
known_inside names k = record { means = k.means; fields = k.fields; named = k.named }

known_behind : (names last : Names) → Known names → Known last → Known (behind names last)
known_behind names last k last_k = record { means = k.means; fields = k.fields; named = last_k.named }

-- types of fields that have values
abbrev AreValued : List Field → Type 0
AreValued fields = AllByRecursion (λ (field : Field). IsValued field.ty) fields

-- the fields of a class, from this position on
abbrev AreFields : List ℕ → ℕ → List GroupAt → Type 0
AreFields text index [] = Unit {0}
AreFields text index (group ∷ groups) = HasField text index group.ty × AreFields text (index + 1) groups

length_one : (fields : List Field) (field : Field) → length (fields ++ field ∷ []) ≡ length fields + 1
length_one fields field = simp length-append (omega arith)

at_end_of : (done rest : List Field) (field : Field) → At (IsOfType field.ty) (done ++ field ∷ rest) (length done)
at_end_of [] rest field = inl (refl, refl)
at_end_of (first ∷ done) rest field = inr (length done, omega arith, at_end_of done rest field)

field_is : (name : List ℕ) (all done rest : List Field) (field : Field) (index : ℕ) → IsNamed name all → AreValued all → all ≡ done ++ field ∷ rest →
    index ≡ length done → HasField (class_text name all) index field.ty
field_is name all done rest field index named valued e i = record {
  class = record { name = name; fields = all; named = named; text_is = refl; valued = valued };
  at = subst (λ (l : List Field). At (IsOfType field.ty) l index) (sym e)
      (subst (At (IsOfType field.ty) (done ++ field ∷ rest)) (sym i) (at_end_of done rest field));
}

are_fields : (name : List ℕ) (all done : List Field) (groups : List GroupAt) (index : ℕ) → IsNamed name all → AreValued all →
    all ≡ done ++ map field_of groups →
    index ≡ length done → AreFields (class_text name all) index groups
are_fields name all done [] index named valued e i = tt
are_fields name all done (group ∷ groups) index named valued e i = (
  field_is name all done (map field_of groups) (field_of group) index named valued e i,
  are_fields name all (done ++ field_of group ∷ []) groups (index + 1) named valued
      (e ∙ sym (append_assoc done (field_of group ∷ []) (map field_of groups)))
      (let l = length_one done (field_of group) in omega arith),
)

field_types : (groups : List GroupAt) → types_of groups ≡ types_of_fields (map field_of groups)
field_types [] = refl
field_types (group ∷ groups) = ap (types.more group.ty) (field_types groups)

fields_named : (groups : List GroupAt) → AreGroups groups → AllByRecursion (λ (field : Field). IsName field.name) (map field_of groups)
fields_named [] h = tt
fields_named (group ∷ groups) h = (h.0.0, fields_named groups h.1)

fields_valued : (groups : List GroupAt) → AreGroups groups → AreValued (map field_of groups)
fields_valued [] h = tt
fields_valued (group ∷ groups) h = (h.0.1, fields_valued groups h.1)

sound_with_fields : (names : Names) (text : List ℕ) (index : ℕ) (groups : List GroupAt) → AreFields text index groups → Known names →
    Sound Fits (with_fields names text index groups)
sound_with_fields names text index [] h k = ends k tt
sound_with_fields names text index (group ∷ groups) h k =
    by_test (Sound Fits) (is_field_declared names group.name.name) _ _ (λ twice. refuses)
    (λ once. sound_with_fields _ text (index + 1) groups h.1 (known_field names _ h.0 k))

sound_structure : (names : Names) (line : Line) (name : NameAt) (groups : List GroupAt) → IsName name.name →
    AreGroups groups → Known names → Sound Fits (structure names line name groups)
sound_structure names line name groups is are k =
    let all : List Field = map field_of groups in
    let text : List ℕ = class_text name.name all in
    let named : IsNamed name.name all = record { class = is; each = fields_named groups are } in
    let valued = fields_valued groups are in
    let has : HasTypes text (types_of groups) =
    record {
      class = record { name = name.name; fields = all; named = named; text_is = refl; valued = valued };
      types_are = field_types groups;
    } in
    by_test (Sound Fits) (nat_lt most_fields (length groups)) _ _ (λ many. refuses) (λ few.
    by_test (Sound Fits) (is_declared names name.name) _ _ (λ twice. refuses) (λ once.
    sound_with_fields (declare names name.name (class text (types_of groups))) text 0 groups
    (are_fields name.name all [] groups 0 named valued refl refl) (known_declared names name.name (class text (types_of groups)) has k)))

sound_used : (line : Line) (names : Names) (meaning : Option Meaning) → Known names → Sound Fits (used line names meaning)
sound_used line names (Some (local number ty variable)) k = ends k tt
sound_used line names (Some (class text fields)) k = refuses
sound_used line names (Some (library procedure)) k = refuses
sound_used line names None k = refuses

sound_is_of : (name : NameAt) (negated : Bool) (e : Node) (names : Names) (meaning : Option Meaning) → Fits e → Known names →
    ((m : Meaning) → meaning ≡ Some m → IsMeaning m) → Sound Fits (is_of name negated e names meaning)
sound_is_of name true e names (Some (class text tys)) f k h = ends k ((h (class text tys) refl).class, f)
sound_is_of name false e names (Some (class text tys)) f k h = ends k ((h (class text tys) refl).class, f)
sound_is_of name negated e names (Some (local number ty variable)) f k h = refuses
sound_is_of name negated e names (Some (library procedure)) f k h = refuses
sound_is_of name negated e names None f k h = refuses

sound_field_at : (line : Line) (p : Node) (names : Names) (name_line : Line) (found : Option FieldOf) → Fits p → Known names →
    ((f : FieldOf) → found ≡ Some f → IsField f) → Sound Fits (field_at line p names name_line found)
sound_field_at line p names name_line (Some found) f k h = ends k (h found refl, f)
sound_field_at line p names name_line None f k h = refuses

sound_field : (line : Line) (p : Node) (names : Names) (name : Option NameAt) → Fits p → Known names → Sound Fits (field line p names name)
sound_field line p names (Some name) f k =
    sound_field_at line p names name.line (field_meant names name.name) f k (λ found e. k.fields name.name found e)
sound_field line p names None f k = refuses

-- so of each of these clauses
abbrev AllSound : List Checker → Type 0
AllSound [] = Unit {0}
AllSound (first ∷ rest) = ((names : Names) → Known names → Sound Fits (first.check names)) × AllSound rest

sound_each : (names : Names) (t : TyView) (clauses : List Checker) → AllSound clauses → Known names → Sound AllFit (check_each names t clauses)
sound_each names t [] h k = gives AllFit node.none t names tt k
sound_each names t (first ∷ rest) h k =
    wanted t _ _ _ (h.0 names k) (λ tree ty n f k. next {P = AllFit} _ _ (sound_each n t rest h.1 k)
    (λ trees last n g k. gives AllFit (node.more tree trees) t n (f, g) k))

-- as many clauses as types
abbrev HaveTypes : Nodes → TyViews → Type 0
HaveTypes node.none types.none = Unit {0}
HaveTypes (node.more first rest) (types.more t ts) = HaveTypes rest ts
HaveTypes trees tys = ⊥

as_many : (trees : Nodes) (fields : List Field) → HaveTypes trees (types_of_fields fields) → AreAsMany trees fields
as_many node.none [] h = tt
as_many (node.more first rest) (field ∷ fields) h = as_many rest fields h
as_many node.none (field ∷ fields) h = absurd h
as_many (node.more first rest) [] h = absurd h

has_as_many : (text : List ℕ) (tys : TyViews) (trees : Nodes) → HasTypes text tys → HaveTypes trees tys → HasAsMany text trees
has_as_many text tys trees has h = record { class = has.class; are = as_many trees has.class.fields (subst (HaveTypes trees) has.types_are h) }

-- arguments, where they are as many as the parameters
record ArgsFit (tys : TyViews) (trees : Nodes) : Type 0 where
  pub all : AllFit trees
  pub have : HaveTypes trees tys

sound_args : (names : Names) (tys : TyViews) (args : List Checker) → AllSound args → count_types tys ≡ length args → Known names →
    Sound (ArgsFit tys) (check_args names tys args)
sound_args names types.none [] h e k = gives (ArgsFit types.none) node.none types.Void names (record { all = tt; have = tt }) k
sound_args names (types.more t ts) (first ∷ rest) h e k =
    wanted t _ _ _ (h.0 names k) (λ tree ty n f k. next {P = ArgsFit ts} _ _ (sound_args n ts rest h.1 (omega arith) k)
    (λ trees last n g k. gives (ArgsFit (types.more t ts)) (node.more tree trees) types.Void n (record { all = (f, g.all); have = g.have }) k))
sound_args names (types.more t ts) [] h e k = absurd (omega arith)
sound_args names types.none (first ∷ rest) h e k = absurd (omega arith)

equal_counts : (a b : ℕ) → nat_eq a b ≡ true → a ≡ b
equal_counts a b e = eqb-true a b e

sound_with_args : (names : Names) (line : Line) (tys : TyViews) (args : List Checker) (make : Nodes → Node) (ty : TyView) → AllSound args →
    Known names → ((trees : Nodes) → ArgsFit tys trees → Fits (make trees)) → Sound Fits (with_args names line tys args make ty)
sound_with_args names line tys args make ty h k made =
    by_test (Sound Fits) (nat_eq (count_types tys) (length args)) _ _
    (λ same. next {P = ArgsFit tys} _ _ (sound_args names tys args h (equal_counts _ _ same) k) (λ trees t n g k. ends k (made trees g)))
    (λ differ. refuses)

sound_elements : (names : Names) (line : Line) (v : Node) (t : TyView) (args : List Checker) → Fits v → Known names → AllSound args →
    Sound Fits (elements names line v t args)
sound_elements names line v t [] f k h = ends k f
sound_elements names line v (types.Vector element) (i ∷ rest) f k h =
    wanted types.Int _ _ _ (h.0 names k) (λ i' int n g k. sound_elements n line (node.Element v i' element line) element rest (f, g) k h.1)
sound_elements names line v other (i ∷ rest) f k h = refuses

sound_value_applied : (names : Names) (line : Line) (v : Node) (t : TyView) (phrases : Phrases) (args : List Checker) → Fits v → Known names →
    AllSound args → Sound Fits (value_applied names line v t phrases args)
sound_value_applied names line v (types.Proc tys ty) phrases args f k h = sound_with_args names line tys args _ ty h k (λ trees g. (f, g.all))
sound_value_applied names line v (types.Vector element) phrases [] f k h = refuses
sound_value_applied names line v (types.Vector element) phrases (i ∷ rest) f k h = sound_elements names line v (types.Vector element) (i ∷ rest) f k h
sound_value_applied names line v types.Pntr phrases args f k h = sound_field line v names (field_name phrases) f k
sound_value_applied names line v other phrases args f k h = refuses

sound_scan_applied : (names : Names) (line : Line) (text : Bool) (args : List Checker) → Known names → AllSound args →
    Sound Fits (scan_applied names line text args)
sound_scan_applied names line text (a ∷ f ∷ []) k h =
    wanted types.Pntr _ _ _ (h.0 names k) (λ a t n f k. wanted _ _ _ _ (h.1.0 n k) (λ b t' n' g k. ends k (f, g)))
sound_scan_applied names line text other k h = refuses

sound_name_applied : (names : Names) (line name_line : Line) (meaning : Option Meaning) (phrases : Phrases) (args : List Checker) →
    ((m : Meaning) → meaning ≡ Some m → IsMeaning m) → Known names → AllSound args →
    Sound Fits (name_applied names line name_line meaning phrases args)
sound_name_applied names line name_line (Some (class text tys)) phrases args means k h = sound_with_args names line tys args
    (node.Make text) types.Pntr h k (λ trees g. (has_as_many text tys trees (means (class text tys) refl) g.have, g.all))
sound_name_applied names line name_line (Some (library (plain code tys ty))) phrases args means k h =
    sound_with_args names line tys args (λ trees. node.Lib code trees line) ty h k (λ trees g. g.all)
sound_name_applied names line name_line (Some (library (scan text))) phrases args means k h = sound_scan_applied names line text args k h
sound_name_applied names line name_line (Some (local number t variable)) phrases args means k h =
    sound_value_applied names line (node.Name (Plain number) t) t phrases args tt k h
sound_name_applied names line name_line None phrases args means k h = refuses

sound_applied : (names : Names) (line name_line : Line) (name : Option (List ℕ)) (f : Outcome Node) (phrases : Phrases) (args : List Checker) →
    Sound Fits f → Known names → AllSound args → Sound Fits (applied names line name_line name f phrases args)
sound_applied names line name_line (Some name) f phrases args f_sound k h = sound_name_applied names line name_line (meant names name) phrases args
    (λ m e. k.means name m e) k h
sound_applied names line name_line None f phrases args f_sound k h =
    next {P = Fits} _ _ f_sound (λ v t n g k. sound_value_applied n line v t phrases args g k h)

-- the parameters of a procedure
abbrev AreParams : List Param → Type 0
AreParams params = AllValued (types_of_params params)

and_param : (made : List Param) (last : Param) → AreParams made → IsValued last.ty → AreParams (made ++ last ∷ [])
and_param [] last h is = (is, tt)
and_param (first ∷ rest) last h is = (h.0, and_param rest last h.1 is)

sound_params : (names : Names) (made : List Param) (groups : List GroupAt) → AreParams made → AreGroups groups → Known names →
    Sound AreParams (with_params names made groups)
sound_params names made [] so_far are k = gives AreParams made types.Void names so_far k
sound_params names made (group ∷ groups) so_far are k =
    by_test (Sound AreParams) (is_declared names group.name.name) _ _ (λ twice. refuses)
    (λ once. sound_params _ _ groups (and_param made _ so_far are.0.1) are.1 (known_local names group.name.name group.ty true are.0.0 k))

sound_parameters : (names : Names) (line : Line) (groups : List GroupAt) → AreGroups groups → Known names →
    Sound AreParams (parameters names line groups)
sound_parameters names line groups are k = by_test (Sound AreParams) (nat_lt most_parameters (length groups)) _ _ (λ many. refuses)
    (λ few. sound_params (inside names) [] groups tt are (known_inside names k))

sound_literal : (names : Names) (line : Line) (groups : List GroupAt) (ty : TyView) (s_line : Line) (check_s : Names → Outcome Node) →
    ((own : Names) → Known own → Sound Fits (check_s own)) → AreGroups groups → IsGiven ty → Known names →
    Sound Fits (literal names line groups ty s_line check_s)
sound_literal names line groups ty s_line check_s h are given k =
    next {P = AreParams} _ _ (sound_parameters names line groups are k) (λ made t own f own_k.
    wanted ty _ _ _ (h own own_k) (λ s t' last g last_k. ends (known_behind names last k last_k) ((f, given), g)))

sound_named_literal : (names : Names) (name : NameAt) (variable : Bool) (line : Line) (groups : List GroupAt) (ty : TyView) (s_line : Line)
    (check_s : Names → Outcome Node) → ((own : Names) → Known own → Sound Fits (check_s own)) → IsName name.name → AreGroups groups → IsGiven ty →
    Known names → Sound Fits (named_literal names name variable line groups ty s_line check_s)
sound_named_literal names name variable line groups ty s_line check_s h is are given k =
    by_test (Sound Fits) (is_declared names name.name) _ _ (λ twice. refuses) (λ once.
    next {P = Fits} _ _ (sound_literal _ line groups ty s_line check_s h are given
    (known_local names name.name (types.Proc (types_of groups) ty) variable is k))
    (λ e t last g last_k. ends last_k g))

sound_introduced : (name : NameAt) (variable : Bool) (e : Node) (ty : TyView) (names : Names) → IsName name.name → Fits e → Known names →
    Sound Fits (introduced name variable e ty names)
sound_introduced name variable e ty names is f k =
    by_test (Sound Fits) (is_declared names name.name) _ _ (λ twice. refuses) (λ once. ends (known_local names name.name ty variable is k) f)

-- `x := e`
sound_target : (line e_line : Line) (can : Bool) (tree : Node) (t found : TyView) (names : Names) → Fits tree → Known names →
    Sound Fits (assigned line e_line can (Some tree) t found names)
unfolding assigned
sound_target line e_line true tree t found names f k = by_test (Sound Fits) (is_same found t) _ _ (λ same. ends k f) (λ differ. refuses)
sound_target line e_line false tree t found names f k = refuses

no_target : (line e_line : Line) (can : Bool) (t found : TyView) (names : Names) → Sound Fits (assigned line e_line can None t found names)
unfolding assigned
no_target line e_line true t found names = refuses
no_target line e_line false t found names = refuses

sound_assigned : (line e_line : Line) (can : Bool) (x e : Node) (t found : TyView) (names : Names) → Fits x → Fits e → Known names →
    Sound Fits (assigned line e_line can (assignment x e) t found names)
sound_assigned line e_line can (node.Name place ty) e t found names f g k = sound_target line e_line can (node.SetName place ty e) t found names g k
sound_assigned line e_line can (node.Element v i ty l) e t found names f g k =
    sound_target line e_line can (node.SetElement v i e ty l) t found names (f.0, f.1, g) k
sound_assigned line e_line can (node.Field p of index ty l) e t found names f g k =
    sound_target line e_line can (node.SetField p of index ty e l) t found names (f.0, f.1, g) k
sound_assigned line e_line can other e t found names f g k = no_target line e_line can t found names

all_together : (trees : Nodes) → AllFit trees → Fits (together trees)
all_together node.none h = tt
all_together (node.more first node.none) h = h.0
all_together (node.more first (node.more second rest)) h = h

-- a clause that is like those before it
sound_like : (given : Option TyView) (line : Line) (o : Outcome Node) → Sound Fits o → Sound Fits (like given line o)
sound_like None line o h = h
sound_like (Some t) line o h = passed _ t line o h

mutual
  pub sound : (names : Names) (p : Phrase) → LeavesFit p → Known names → Sound Fits (check names p)
  sound names (at form line) h k = sound_form names line form h k

  sound_form : (names : Names) (line : Line) (f : Form) → LeavesFitIn f → Known names → Sound Fits (check_form names line f)
  sound_form names line (form.Let name variable (at (form.Proc params ty s) e_line)) h k =
      sound_named_literal names name variable e_line params ty (line_of s) (λ own. check own s) (λ own k. sound own s h.1.2 k) h.0 h.1.0 h.1.1 k
  sound_form names line (form.Let name variable e) h k =
      tested isnt_void _ _ _ _ (sound names e h.1 k) (λ e t n f k. sound_introduced name variable e t n h.0 f k)
  sound_form names line (form.Structure name fields) h k = sound_structure names line name fields h.0 h.1 k
  sound_form names line (form.Name name) h k = sound_used line names (meant names name) k
  sound_form names line form.Nil h k = ends k tt
  sound_form names line (form.Int value) h k = ends k h
  sound_form names line (form.Text bytes) h k = ends k h
  sound_form names line (form.Flag value) h k = ends k tt
  sound_form names line (form.IfDo c a) h k =
      wanted _ _ _ _ (sound names c h.0 k) (λ c t n f k. wanted _ _ _ _ (sound n a h.1 k) (λ a t n g k. ends k (f, g)))
  sound_form names line (form.While c a) h k =
      wanted _ _ _ _ (sound names c h.0 k) (λ c t n f k. wanted _ _ _ _ (sound n a h.1 k) (λ a t n g k. ends k (f, g)))
  sound_form names line (form.Repeat a c b) h k =
      wanted _ _ _ _ (sound names a h.0 k) (λ a t n f k.
      wanted _ _ _ _ (sound n c h.1 k) (λ c t n g k.
      next {P = Fits} _ _ (sound_if_any n types.Void node.Empty b h.2 tt k) (λ b t n i k. ends k (f, g, i))))
  sound_form names line (form.IfElse c a b) h k =
      wanted _ _ _ _ (sound names c h.0 k) (λ c t n f k.
      next {P = Fits} _ _ (sound n a h.1 k) (λ a t n g k.
      wanted _ _ _ _ (sound n b h.2 k) (λ b same n i k. ends k (f, g, i))))
  sound_form names line (form.For name a b c s) h k =
      wanted _ _ _ _ (sound names a h.1 k) (λ a t n f k.
      wanted _ _ _ _ (sound n b h.2 k) (λ b t n g k.
      next {P = Fits} _ _ (sound_if_any n types.Int (node.Int (pos 1)) c h.3 refl k) (λ c t n i k.
      wanted _ _ _ _ (sound (declare_local (inside n) name.name types.Int false) s h.4
      (known_local (inside n) name.name types.Int false h.0 (known_inside n k)))
      (λ s t last j last_k. ends (known_behind n last k last_k) (f, g, i, j)))))
  sound_form names line (form.Case e arms d) h k =
      tested is_equated _ _ _ _ (sound names e h.0 k) (λ e t n f k.
      next {P = ArmsFit} _ _ (sound_arms n t None arms h.1 k) (λ arms given n g k.
      next {P = Fits} _ _ (sound_like (first_type arms given) _ _ (sound n d h.2 k)) (λ d given n i k. ends k (f, g, i))))
  sound_form names line (form.Write items) h k =
      next {P = AllFit} _ _ (sound_written names items h k) (λ trees t n f k. ends k (all_together trees f))
  sound_form names line form.Abort h k = ends k tt
  sound_form names line (form.Proc params ty s) h k =
      sound_literal names line params ty (line_of s) (λ own. check own s) (λ own k. sound own s h.2 k) h.0 h.1 k
  sound_form names line (form.Vector l u e) h k =
      wanted _ _ _ _ (sound names l h.0 k) (λ l t n f k.
      wanted _ _ _ _ (sound n u h.1 k) (λ u t n g k.
      tested isnt_void _ _ _ _ (sound n e h.2 k) (λ e t n i k. ends k (f, g, i))))
  sound_form names line (form.Elems l t items) h k =
      wanted _ _ _ _ (sound names l h.1 k) (λ l int n f k.
      next {P = AllFit} _ _ (sound_each n t (checkers items) (all_sound items h.2) k) (λ items last n g k. ends k (h.0, f, g)))
  sound_form names line (form.Assign x e) h k =
      next {P = Fits} _ _ (sound names x h.0 k) (λ x' t n f k.
      next {P = Fits} _ _ (sound n e h.1 k) (λ e' found n g k. sound_assigned line (line_of e) _ x' e' t found n f g k))
  sound_form names line (form.Or a b) h k =
      wanted _ _ _ _ (sound names a h.0 k) (λ a t n f k. wanted _ _ _ _ (sound n b h.1 k) (λ b t n g k. ends k (f, g)))
  sound_form names line (form.And a b) h k =
      wanted _ _ _ _ (sound names a h.0 k) (λ a t n f k. wanted _ _ _ _ (sound n b h.1 k) (λ b t n g k. ends k (f, g)))
  sound_form names line (form.Not e) h k = wanted _ _ _ _ (sound names e h k) (λ e t n f k. ends k f)
  sound_form names line (form.Compare op a b) h k =
      tested (is_comparable op) _ _ _ _ (sound names a h.0 k) (λ a t n f k. wanted _ _ _ _ (sound n b h.1 k) (λ b same n g k. ends k (f, g)))
  sound_form names line (form.Is e name negated) h k =
      wanted _ _ _ _ (sound names e h k) (λ e t n f k. sound_is_of name negated e n (meant n name.name) f k (λ m e. k.means name.name m e))
  sound_form names line (form.Arith op a b) h k =
      wanted _ _ _ _ (sound names a h.0 k) (λ a t n f k. wanted _ _ _ _ (sound n b h.1 k) (λ b t n g k. ends k (f, g)))
  sound_form names line (form.Plus e) h k = wanted _ _ _ _ (sound names e h k) (λ e t n f k. ends k f)
  sound_form names line (form.Neg e) h k = wanted _ _ _ _ (sound names e h k) (λ e t n f k. ends k f)
  sound_form names line (form.Join a b) h k =
      wanted _ _ _ _ (sound names a h.0 k) (λ a t n f k. wanted _ _ _ _ (sound n b h.1 k) (λ b t n g k. ends k (f, g)))
  sound_form names line (form.Bound upper e) h k = tested is_vector _ _ _ _ (sound names e h k) (λ e t n f k. ends k f)
  sound_form names line (form.Apply f args) h k = sound_applied names line (line_of f) (name_in f) (check names f) args (checkers args)
      (sound names f h.0 k) k (all_sound args h.1)
  sound_form names line (form.Part s i n) h k =
      wanted _ _ _ _ (sound names s h.0 k) (λ s t names' f k.
      wanted _ _ _ _ (sound names' i h.1 k) (λ i t names' g k.
      wanted _ _ _ _ (sound names' n h.2 k) (λ n t names' j k. ends k (f, g, j))))
  sound_form names line (form.Sequence items) h k =
      next {P = AllFit} _ _ (sound_all (inside names) line types.Void items h (known_inside names k))
      (λ trees t last f last_k. ends (known_behind names last k last_k) f)

  all_sound : (items : Phrases) → LeavesFitInAll items → AllSound (checkers items)
  all_sound none h = tt
  all_sound (more first rest) h = (λ names k. sound names first h.0 k, all_sound rest h.1)

  sound_if_any : (names : Names) (t : TyView) (otherwise : Node) (p : MaybePhrase) → LeavesFitInMaybe p → Fits otherwise → Known names →
      Sound Fits (check_if_any names t otherwise p)
  sound_if_any names t otherwise absent h f k = ends k f
  sound_if_any names t otherwise (present e) h f k = passed _ t (line_of e) _ (sound names e h k)

  sound_arms : (names : Names) (t : TyView) (given : Option TyView) (arms : Arms) → LeavesFitInArms arms → Known names →
      Sound ArmsFit (check_arms names t given arms)
  sound_arms names t given no_arms h k = gives ArmsFit node.no_arms types.Void names tt k
  sound_arms names t given (more_arms (arm labels a) rest) h k =
      next {P = AllFit} _ _ (sound_each names t (checkers labels) (all_sound labels h.0) k) (λ labels same n f k.
      next {P = Fits} _ _ (sound_like given _ _ (sound n a h.1 k)) (λ a own n g k.
      next {P = ArmsFit} _ _ (sound_arms n t (Some own) rest h.2 k)
      (λ rest last n i k. gives ArmsFit (node.more_arms (node.arm labels a) rest) own n (f, g, i) k)))

  sound_all : (names : Names) (line : Line) (before : TyView) (items : Phrases) → LeavesFitInAll items → Known names →
      Sound AllFit (check_all names line before items)
  sound_all names line before none h k = gives AllFit node.none before names tt k
  sound_all names line before (more clause rest) h k =
      by_test (Sound AllFit) (is_same before types.Void) _ _
      (λ void. next {P = Fits} _ _ (sound names clause h.0 k) (λ tree t n f k.
      next {P = AllFit} _ _ (sound_all n (line_of clause) t rest h.1 k) (λ trees last n g k. gives AllFit (node.more tree trees) last n (f, g) k)))
      (λ value. refuses)

  sound_written : (names : Names) (items : WriteItems) → LeavesFitInWritten items → Known names → Sound AllFit (check_written names items)
  sound_written names no_items h k = gives AllFit node.none types.Void names tt k
  sound_written names (more_items (item e w line) rest) h k =
      tested is_writable _ _ _ _ (sound names e h.0 k) (λ e t n f k.
      next {P = Fits} _ _ (sound_if_any n types.Int node.Empty w h.1 tt k) (λ w wide n g k.
      next {P = AllFit} _ _ (sound_written n rest h.2 k) (λ rest last n i k.
      gives AllFit (node.more (node.Write e w (is_present wide) t line) rest) types.Void n ((f, g), i) k)))
