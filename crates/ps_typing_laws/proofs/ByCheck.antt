-- What the check of a clause gives is a typed tree, in which each name has its number.
use Rattle.std.proofs.Common.{◌≡◌, ℕ, ◌+◌, ◌≤◌, Bool, true, false, List, [], ◌∷◌, ◌++◌, inl, inr, arith, refl, sym, ap, ◌∙◌, subst}
use Rattle.std.specs.List.{slice_get}
use Rattle.std.specs.Prelude.{Option, Some, None, if◌then◌else◌, nat_lt, nat_eq, length, pos, map}
use Rattle.std.specs.Str.{bytes_eq}
use Rattle.std.proofs.Math.Seq.{get_or-append_seam}
use Rattle.std.proofs.lemmas.Option.{slice_get_read}
use Rattle.std.proofs.lemmas.Bool.{eqb-true}
use Rattle.std.proofs.lemmas.List.{append_assoc, append-nil, length-append}
use Rattle.ps_typing.specs.ps_base.Limits.{most_fields, most_parameters}
use Rattle.ps_typing.specs.ps_base.TyView.{TyView, TyViews}
use Rattle.ps_typing.specs.ps_base.TyView as types
use Rattle.ps_typing.specs.ps_base.declared.line.Line.{Line}
use Rattle.ps_typing.specs.ps_tree.Phrase.{NameAt, GroupAt, Phrase, at, Form, Phrases, none, more, MaybePhrase, absent, present, Arm, arm, Arms, no_arms, more_arms, WriteItem, item, WriteItems, no_items, more_items}
use Rattle.ps_typing.specs.ps_tree.Phrase as form
use Rattle.ps_typing.specs.ps_program.declared.place.Place.{Place}
use Rattle.ps_typing.specs.ps_program.declared.place.Place.TheVariants.{Plain}
use Rattle.ps_typing.specs.ps_program.Assigning.{assignment}
use Rattle.ps_typing.specs.ps_program.Node.{Param, Node, Nodes, BodyNode, body}
use Rattle.ps_typing.specs.ps_program.Node as node
use Rattle.ps_typing.specs.ps_type_text.Texts.{Field, class_text}
use Rattle.ps_typing.specs.Names.{plain, scan, Meaning, local, class, library, Names, Declared, FieldOf, lookup, lookup_field, meant, field_meant, is_declared, is_field_declared, declare, declare_local, declare_field, inside, behind}
use Rattle.ps_typing.specs.Checking.{Outcome, Gives, Refuses, ◌>>=◌, passes, wants, is_same, is_vector, is_equated, is_writable, is_comparable, isnt_void, is_present, line_of, name_in, introduced, types_of, field_of, with_fields, structure, used, with_params, parameters, is_of, assigned, field_at, field, field_name, together, Checker, like, check_each, check_args, count_types, with_args, elements, value_applied, scan_applied, name_applied, applied, literal, named_literal, first_type, check, check_form, checkers, check_if_any, check_arms, check_all, check_written}
use Rattle.ps_typing.specs.Placing.{field_at as name_at}
use Rattle.ps_typing.specs.Items.{LetsStand, LetsStandIn, LetsStandInAll, LetsStandInMaybe, LetsStandInArms, LetsStandInWritten}
use Rattle.ps_typing.specs.WellTyped.{At, Some_is, IsOfType, IsClass, IsField, IsLibrary, types_of_fields, types_of_params, Claim, ◌has◌, all_have, arms_have, Arguments, Rule}
use Rattle.ps_typing.specs.WellTyped as rule
use Rattle.ps_typing.proofs.SameTypes.{same_is_equal}
use Rattle.ps_typing_laws.proofs.Numbered.{Entry, entry, IsEntry, IsIn, HasType, Params, Numbered, AllNumbered, ItemsNumbered}
use Rattle.ps_typing_laws.proofs.Numbered as num

-- a choice, by its test
by_test : {A : Type 0} (P : A → Type 0) (b : Bool) (x y : A) → (b ≡ true → P x) → (b ≡ false → P y) → P (if b then x else y)
by_test P true x y on_true on_false = on_true refl
by_test P false x y on_true on_false = on_false refl

-- more names at the end
abbrev pub Extends : List Field → List Field → Type 0
Extends some all = (further : List Field) × (all ≡ some ++ further)

pub same_extends : (names : List Field) → Extends names names
same_extends names = ([], sym (append-nil names))

further_extends : (a b c : List Field) → Extends a b → Extends b c → Extends a c
further_extends a b c (further, e) (furthest, f) = (further ++ furthest, f ∙ ap (λ (l : List Field). l ++ furthest) e ∙ append_assoc a further furthest)

one_extends : (names : List Field) (name : Field) → Extends names (names ++ name ∷ [])
one_extends names name = (name ∷ [], refl)

length_one : (names : List Field) (name : Field) → length (names ++ name ∷ []) ≡ length names + 1
length_one names name = simp length-append (omega arith)

chosen : (names : List Field) (n : ℕ) (name : Field) → slice_get names n ≡ Some name → name_at names n ≡ name
chosen names n name e = rw (e, name_at)

named_at : (xs ys : List Field) (name : Field) → name_at (xs ++ name ∷ ys) (length xs) ≡ name
named_at xs ys name =
    let l : length (xs ++ name ∷ ys) ≡ length xs + (length ys + 1) = simp length-append (omega arith) in
    chosen (xs ++ name ∷ ys) (length xs) name (slice_get_read (xs ++ name ∷ ys) (length (xs ++ name ∷ ys)) (length xs) name refl (omega arith)
    (sym (get_or-append_seam xs name ys name)))

-- the name with the next number
has_type : (names all : List Field) (name : Field) → Extends (names ++ name ∷ []) all → HasType all (length names) name.ty
has_type names all name (further, e) =
    let is : all ≡ names ++ (name ∷ further) = e ∙ append_assoc names (name ∷ []) further in
    ap (λ (l : List Field). (name_at l (length names)).ty) is ∙ ap (λ (f : Field). f.ty) (named_at names further name)

-- what a name in scope means
abbrev pub IsMeaning : List Entry → ℕ → Meaning → Type 0
IsMeaning scope depth (local number ty variable) = (d : ℕ) × (d ≤ depth) × IsIn scope number ty d
IsMeaning scope depth (class text tys) = IsClass text tys
IsMeaning scope depth (library (plain code params gives)) = IsLibrary code params gives
IsMeaning scope depth (library (scan text)) = Unit {0}

-- each local that a name means is in scope, inside so many literals, and each class and field is one
pub record Known (scope : List Entry) (depth : ℕ) (names : Names) : Type 0 where
  pub means : (name : List ℕ) (meaning : Meaning) → meant names name ≡ Some meaning → IsMeaning scope depth meaning
  pub fields : (name : List ℕ) (f : FieldOf) → field_meant names name ≡ Some f → IsField f.class f.index f.ty

-- what is given from these names on
pub record Fine {A : Type 0} (P : List Field → List Entry → ℕ → ℕ → A → TyView → ℕ → Type 0) (before : Names) (of : A) (ty : TyView)
    (after : Names) : Type 0 where
  pub grown : Extends before.all after.all
  pub known : (scope : List Entry) (depth : ℕ) → Known scope depth before → Known scope depth after
  pub typed : (all : List Field) (scope : List Entry) (depth : ℕ) → Extends after.all all → Known scope depth before →
      P all scope depth (length before.all) of ty (length after.all)

abbrev pub Given : {A : Type 0} → (List Field → List Entry → ℕ → ℕ → A → TyView → ℕ → Type 0) → Names → Outcome A → Type 0
Given P before (Gives of ty after) = Fine P before of ty after
Given P before (Refuses fault) = Unit {0}

pub record Sound {A : Type 0} (P : List Field → List Entry → ℕ → ℕ → A → TyView → ℕ → Type 0) (before : Names) (o : Outcome A) : Type 0 where
  pub fine : Given P before o

refuses : {A : Type 0} {P : List Field → List Entry → ℕ → ℕ → A → TyView → ℕ → Type 0} {before : Names} {fault : _} → Sound P before (Refuses fault)
refuses = record { fine = tt }

next : {A B : Type 0} {P : List Field → List Entry → ℕ → ℕ → A → TyView → ℕ → Type 0} {Q : List Field → List Entry → ℕ → ℕ → B → TyView → ℕ → Type 0}
    {s s' : Names} (o : Outcome A) (k : A → TyView → Names → Outcome B) →
    Sound P s' o → ((of : A) (ty : TyView) (names : Names) → Fine P s' of ty names → Sound Q s (k of ty names)) → Sound Q s (o >>= k)
unfolding ◌>>=◌
next (Gives of ty names) k h after = after of ty names h.fine
next (Refuses fault) k h after = refuses

-- a clause, and one that is to have this type
abbrev pub Is : List Field → List Entry → ℕ → ℕ → Node → TyView → ℕ → Type 0
Is all scope depth n tree ty m = Numbered all scope depth n tree ty m

abbrev pub IsOf : TyView → List Field → List Entry → ℕ → ℕ → Node → TyView → ℕ → Type 0
IsOf wanted all scope depth n tree ty m = Numbered all scope depth n tree wanted m

as_own : {s n : Names} {tree : Node} {ty : TyView} → Fine Is s tree ty n → Fine (IsOf ty) s tree ty n
as_own f = record { grown = f.grown; known = f.known; typed = f.typed }

as_type : {s n : Names} {tree : Node} {ty wanted : TyView} → ty ≡ wanted → Fine Is s tree ty n → Fine (IsOf wanted) s tree ty n
as_type {s = s} {n = n} {tree = tree} {ty = ty} e f = subst (λ (t : TyView). Fine (IsOf t) s tree ty n) e (as_own f)

tested : {B : Type 0} {Q : List Field → List Entry → ℕ → ℕ → B → TyView → ℕ → Type 0} {s s' : Names} (test : TyView → Bool) (wanted : TyView)
    (line : Line) (o : Outcome Node) (k : Node → TyView → Names → Outcome B) →
    Sound Is s' o → ((tree : Node) (ty : TyView) (names : Names) → test ty ≡ true → Fine Is s' tree ty names → Sound Q s (k tree ty names)) →
    Sound Q s (passes test wanted line o >>= k)
unfolding ◌>>=◌ passes
tested {Q = Q} {s = s} test wanted line (Gives tree ty names) k h after =
    by_test (λ (o : Outcome Node). Sound Q s (o >>= k)) (test ty) (Gives tree ty names) (Refuses _) (λ is. after tree ty names is h.fine) (λ isnt. refuses)
tested test wanted line (Refuses fault) k h after = refuses

wanted : {B : Type 0} {Q : List Field → List Entry → ℕ → ℕ → B → TyView → ℕ → Type 0} {s s' : Names} (t : TyView) (line : Line) (o : Outcome Node)
    (k : Node → TyView → Names → Outcome B) →
    Sound Is s' o → ((tree : Node) (ty : TyView) (names : Names) → ty ≡ t → Fine (IsOf t) s' tree ty names → Sound Q s (k tree ty names)) →
    Sound Q s (wants t line o >>= k)
wanted t line o k h after = tested _ t line o k h (λ tree ty names is f. let e = same_is_equal ty t is in after tree ty names e (as_type e f))

pub of_type : {s : Names} (t : TyView) (line : Line) (o : Outcome Node) → Sound Is s o → Sound (IsOf t) s (wants t line o)
unfolding passes
of_type {s = s} t line (Gives tree ty names) h =
    by_test (Sound (IsOf t) s) (is_same ty t) (Gives tree ty names) (Refuses _) (λ is. record { fine = as_type (same_is_equal ty t is) h.fine })
    (λ isnt. refuses)
of_type t line (Refuses fault) h = refuses

-- clauses one after the other
record FineAll (before : Names) (claims : List Claim) (after : Names) : Type 0 where
  pub grown : Extends before.all after.all
  pub known : (scope : List Entry) (depth : ℕ) → Known scope depth before → Known scope depth after
  pub typed : (all : List Field) (scope : List Entry) (depth : ℕ) → Extends after.all all → Known scope depth before →
      AllNumbered all scope depth (length before.all) claims (length after.all)

nothing : {s : Names} → FineAll s [] s
nothing {s = s} = record { grown = same_extends s.all; known = λ scope depth k. k; typed = λ all scope depth e k. num.no_more }

one : {s n : Names} {tree : Node} {ty t : TyView} → Fine (IsOf t) s tree ty n → FineAll s (tree has t ∷ []) n
one f = record { grown = f.grown; known = f.known; typed = λ all scope depth e k. num.one_more (f.typed all scope depth e k) num.no_more }

append_numbered : {all : List Field} {scope : List Entry} {depth n m m' : ℕ} {xs ys : List Claim} → AllNumbered all scope depth n xs m →
    AllNumbered all scope depth m ys m' → AllNumbered all scope depth n (xs ++ ys) m'
append_numbered num.no_more ys = ys
append_numbered (num.one_more x xs) ys = num.one_more x (append_numbered xs ys)

both : {s n n' : Names} {xs ys : List Claim} → FineAll s xs n → FineAll n ys n' → FineAll s (xs ++ ys) n'
both {s = s} {n = n} {n' = n'} f g = record {
  grown = further_extends s.all n.all n'.all f.grown g.grown;
  known = λ scope depth k. g.known scope depth (f.known scope depth k);
  typed = λ all scope depth e k. append_numbered (f.typed all scope depth (further_extends n.all n'.all all g.grown e) k)
      (g.typed all scope depth e (f.known scope depth k));
}

two : {s n n' : Names} {a b : Node} {ty ty' t t' : TyView} → Fine (IsOf t) s a ty n → Fine (IsOf t') n b ty' n' → FineAll s (a has t ∷ b has t' ∷ []) n'
two f g = both (one f) (one g)

three : {s n n' n'' : Names} {a b c : Node} {ty ty' ty'' t t' t'' : TyView} → Fine (IsOf t) s a ty n → Fine (IsOf t') n b ty' n' →
    Fine (IsOf t'') n' c ty'' n'' → FineAll s (a has t ∷ b has t' ∷ c has t'' ∷ []) n''
three f g h = both (one f) (two g h)

-- a clause with these parts
finishes : {A : Type 0} (P : List Field → List Entry → ℕ → ℕ → A → TyView → ℕ → Type 0) {s n : Names} {claims : List Claim} {of : A} {ty : TyView} →
    FineAll s claims n →
    ((all : List Field) (scope : List Entry) (depth i j : ℕ) → Known scope depth s → AllNumbered all scope depth i claims j →
    P all scope depth i of ty j) → Fine P s of ty n
finishes P {s = s} {n = n} f h = record {
  grown = f.grown;
  known = f.known;
  typed = λ all scope depth e k. h all scope depth (length s.all)
      (length n.all) k (f.typed all scope depth e k);
}

gives : {A : Type 0} (P : List Field → List Entry → ℕ → ℕ → A → TyView → ℕ → Type 0) {s n : Names} {claims : List Claim} {of : A} {ty : TyView} →
    FineAll s claims n →
    ((all : List Field) (scope : List Entry) (depth i j : ℕ) → Known scope depth s → AllNumbered all scope depth i claims j →
    P all scope depth i of ty j) → Sound P s (Gives of ty n)
gives P f h = record { fine = finishes P f h }

ends : {s n : Names} {claims : List Claim} {tree : Node} {ty : TyView} → FineAll s claims n → Rule tree claims ty → Sound Is s (Gives tree ty n)
ends f r = gives Is f (λ all scope depth i j k claims. num.by_rule r claims)

stays : {A : Type 0} (P : List Field → List Entry → ℕ → ℕ → A → TyView → ℕ → Type 0) {s : Names} {of : A} {ty : TyView} →
    ((all : List Field) (scope : List Entry) (depth : ℕ) → Known scope depth s → P all scope depth (length s.all) of ty (length s.all)) →
    Sound P s (Gives of ty s)
stays P {s = s} h = record { fine = record { grown = same_extends s.all; known = λ scope depth k. k; typed = λ all scope depth e k. h all scope depth k } }

vector_of : (ty : TyView) → is_vector ty ≡ true → (element : TyView) × (ty ≡ types.Vector element)
vector_of (types.Vector element) h = (element, refl)
vector_of ty h = absurd cc

-- a lookup in a list with one more at the start
pub lookup_more : (P : Meaning → Type 0) (d : Declared) (ds : List Declared) (name : List ℕ) (meaning : Meaning) → P d.meaning →
    (lookup ds name ≡ Some meaning → P meaning) → lookup (d ∷ ds) name ≡ Some meaning → P meaning
lookup_more P d ds name meaning here there is =
    by_test (λ (o : Option Meaning). o ≡ Some meaning → P meaning) (bytes_eq d.name name) (Some d.meaning) (lookup ds name)
    (λ same e. let same_meaning : d.meaning ≡ meaning = cc in subst P same_meaning here) (λ differs e. there e) is

pub lookup_field_more : (f : FieldOf) (fs : List FieldOf) (name : List ℕ) (found : FieldOf) → IsField f.class f.index f.ty →
    (lookup_field fs name ≡ Some found → IsField found.class found.index found.ty) → lookup_field (f ∷ fs) name ≡ Some found →
    IsField found.class found.index found.ty
lookup_field_more f fs name found here there is =
    by_test (λ (o : Option FieldOf). o ≡ Some found → IsField found.class found.index found.ty) (bytes_eq f.name name) (Some f) (lookup_field fs name)
    (λ same e. let same_field : f ≡ found = cc in subst (λ (g : FieldOf). IsField g.class g.index g.ty) same_field here) (λ differs e. there e) is

-- with a local more in scope, the others mean what they did
meaning_more : (scope : List Entry) (depth : ℕ) (e : Entry) (meaning : Meaning) → IsMeaning scope depth meaning → IsMeaning (e ∷ scope) depth meaning
meaning_more scope depth e (local number ty variable) h = (h.0, h.1, inr h.2)
meaning_more scope depth e (class text tys) h = h
meaning_more scope depth e (library (plain code params ty)) h = h
meaning_more scope depth e (library (scan text)) h = h

-- inside a literal more
meaning_deeper : (scope : List Entry) (depth : ℕ) (meaning : Meaning) → IsMeaning scope depth meaning → IsMeaning scope (depth + 1) meaning
meaning_deeper scope depth (local number ty variable) h = let below = h.1 in (h.0, omega arith, h.2)
meaning_deeper scope depth (class text tys) h = h
meaning_deeper scope depth (library (plain code params ty)) h = h
meaning_deeper scope depth (library (scan text)) h = h

known_local : (scope : List Entry) (depth : ℕ) (names : Names) (name : List ℕ) (ty : TyView) (variable : Bool) → Known scope depth names →
    Known (entry (length names.all) ty depth ∷ scope) depth (declare_local names name ty variable)
known_local scope depth names name ty variable k = record {
  means = λ other meaning e. lookup_more (IsMeaning (entry (length names.all) ty depth ∷ scope) depth) _ (names.here ++ names.around) other meaning
      (depth, omega arith, inl (refl, refl, refl)) (λ there. meaning_more scope depth _ meaning (k.means other meaning there)) e;
  fields = k.fields;
}

known_class : (scope : List Entry) (depth : ℕ) (names : Names) (name text : List ℕ) (tys : TyViews) → IsClass text tys → Known scope depth names →
    Known scope depth (declare names name (class text tys))
known_class scope depth names name text tys is k = record {
  means = λ other meaning e. lookup_more (IsMeaning scope depth) _ (names.here ++ names.around) other meaning is (λ there. k.means other meaning there) e;
  fields = k.fields;
}

known_field : (scope : List Entry) (depth : ℕ) (names : Names) (f : FieldOf) → IsField f.class f.index f.ty → Known scope depth names →
    Known scope depth (declare_field names f)
known_field scope depth names f is k = record {
  means = k.means;
  fields = λ name found e. lookup_field_more f
      (names.fields_here ++ names.fields_around) name found is (λ there. k.fields name found there) e;
}

known_inside : (scope : List Entry) (depth : ℕ) (names : Names) → Known scope depth names → Known scope depth (inside names)
known_inside scope depth names k = record { means = k.means; fields = k.fields }

known_behind : (scope : List Entry) (depth : ℕ) (names last : Names) → Known scope depth names → Known scope depth (behind names last)
known_behind scope depth names last k = record { means = k.means; fields = k.fields }

known_deeper : (scope : List Entry) (depth : ℕ) (names : Names) → Known scope depth names → Known scope (depth + 1) names
known_deeper scope depth names k = record { means = λ name meaning e. meaning_deeper scope depth meaning (k.means name meaning e); fields = k.fields }

-- with other names of which as much is known
moved : {P : List Field → List Entry → ℕ → ℕ → Node → TyView → ℕ → Type 0} (s s' : Names) (o : Outcome Node) → s'.all ≡ s.all →
    ((scope : List Entry) (depth : ℕ) → Known scope depth s → Known scope depth s') → Sound P s' o → Sound P s o
moved {P = P} s s' (Gives tree ty n) e known h = record {
  fine = record {
    grown = subst (λ (l : List Field). Extends l n.all) e h.fine.grown;
    known = λ scope depth k. h.fine.known scope depth (known scope depth k);
    typed = λ all scope depth x k. subst (λ (l : List Field). P all scope depth (length l) tree ty (length n.all)) e
        (h.fine.typed all scope depth x (known scope depth k));
  };
}
moved s s' (Refuses fault) e known h = refuses

-- the fields of a class, from this position on
abbrev AreFields : List ℕ → ℕ → List GroupAt → Type 0
AreFields text index [] = Unit {0}
AreFields text index (group ∷ groups) = IsField text index group.ty × AreFields text (index + 1) groups

at_end_of : (done rest : List Field) (field : Field) → At (IsOfType field.ty) (done ++ field ∷ rest) (length done)
at_end_of [] rest field = inl (refl, refl)
at_end_of (first ∷ done) rest field = inr (length done, omega arith, at_end_of done rest field)

are_fields : (name : List ℕ) (all done : List Field) (groups : List GroupAt) (index : ℕ) → all ≡ done ++ map field_of groups → index ≡ length done →
    AreFields (class_text name all) index groups
are_fields name all done [] index e i = tt
are_fields name all done (group ∷ groups) index e i = (
  (
    name,
    all,
    refl,
    subst (λ (l : List Field). At (IsOfType group.ty) l index) (sym e)
        (subst (At (IsOfType group.ty) (done ++ map field_of (group ∷ groups))) (sym i) (at_end_of done (map field_of groups) (field_of group))),
  ),
  are_fields name all (done ++ field_of group ∷ []) groups (index + 1) (e ∙ sym (append_assoc done (field_of group ∷ []) (map field_of groups)))
      (let l = length_one done (field_of group) in omega arith),
)

field_types : (groups : List GroupAt) → types_of groups ≡ types_of_fields (map field_of groups)
field_types [] = refl
field_types (group ∷ groups) = ap (types.more group.ty) (field_types groups)

sound_with_fields : (names : Names) (text : List ℕ) (index : ℕ) (groups : List GroupAt) → AreFields text index groups →
    Sound Is names (with_fields names text index groups)
sound_with_fields names text index [] h = ends nothing rule.class
sound_with_fields names text index (group ∷ groups) h =
    by_test (Sound Is names) (is_field_declared names group.name.name) _ _ (λ twice. refuses)
    (λ once. moved names _ _ refl (λ scope depth k. known_field scope depth names _ h.0 k) (sound_with_fields _ text (index + 1) groups h.1))

sound_structure : (names : Names) (line : Line) (name : NameAt) (fields : List GroupAt) → Sound Is names (structure names line name fields)
sound_structure names line name fields =
    let text = class_text name.name (map field_of fields) in
    by_test (Sound Is names) (nat_lt most_fields (length fields)) _ _ (λ many. refuses) (λ few.
    by_test (Sound Is names) (is_declared names name.name) _ _ (λ twice. refuses) (λ once.
    moved names _ _ refl (λ scope depth k. known_class scope depth names name.name text (types_of fields)
    (name.name, map field_of fields, refl, field_types fields) k)
    (sound_with_fields (declare names name.name (class text (types_of fields))) text 0 fields
    (are_fields name.name (map field_of fields) [] fields 0 refl refl))))

sound_used : (line : Line) (names : Names) (meaning : Option Meaning) →
    ((scope : List Entry) (depth : ℕ) → Known scope depth names → (m : Meaning) → meaning ≡ Some m → IsMeaning scope depth m) →
    Sound Is names (used line names meaning)
sound_used line names (Some (local number ty variable)) h = stays Is
    (λ all scope depth k. let m = h scope depth k (local number ty variable) refl in num.name m.2 m.1)
sound_used line names (Some (class text fields)) h = refuses
sound_used line names (Some (library procedure)) h = refuses
sound_used line names None h = refuses

sound_is_of : (name : NameAt) (negated : Bool) (e : Node) (s names : Names) (meaning : Option Meaning) → FineAll s (e has types.Pntr ∷ []) names →
    ((scope : List Entry) (depth : ℕ) → Known scope depth names → (m : Meaning) → meaning ≡ Some m → IsMeaning scope depth m) →
    Sound Is s (is_of name negated e names meaning)
sound_is_of name true e s names (Some (class text tys)) f h = gives Is f (λ all scope depth i j k claims.
    num.by_rule rule.not (num.one_more (num.by_rule (rule.is (h scope depth (f.known scope depth k) (class text tys) refl)) claims) num.no_more))
sound_is_of name false e s names (Some (class text tys)) f h = gives Is f
    (λ all scope depth i j k claims. num.by_rule (rule.is (h scope depth (f.known scope depth k) (class text tys) refl)) claims)
sound_is_of name negated e s names (Some (local number ty variable)) f h = refuses
sound_is_of name negated e s names (Some (library procedure)) f h = refuses
sound_is_of name negated e s names None f h = refuses

sound_field_at : (line : Line) (p : Node) (s names : Names) (name_line : Line) (found : Option FieldOf) → FineAll s (p has types.Pntr ∷ []) names →
    ((scope : List Entry) (depth : ℕ) → Known scope depth names → (f : FieldOf) → found ≡ Some f → IsField f.class f.index f.ty) →
    Sound Is s (field_at line p names name_line found)
sound_field_at line p s names name_line (Some found) f h = gives Is f
    (λ all scope depth i j k claims. num.by_rule (rule.field (h scope depth (f.known scope depth k) found refl)) claims)
sound_field_at line p s names name_line None f h = refuses

sound_field : (line : Line) (p : Node) (s names : Names) (name : Option NameAt) → FineAll s (p has types.Pntr ∷ []) names → Sound Is s (field line p names name)
sound_field line p s names (Some name) f = sound_field_at line p s names name.line (field_meant names name.name) f
    (λ scope depth k found e. k.fields name.name found e)
sound_field line p s names None f = refuses

-- so of each of these clauses
abbrev AllSound : List Checker → Type 0
AllSound [] = Unit {0}
AllSound (first ∷ rest) = ((names : Names) → Sound Is names (first.check names)) × AllSound rest

abbrev AllOf : TyView → List Field → List Entry → ℕ → ℕ → Nodes → TyView → ℕ → Type 0
AllOf t all scope depth n trees ty m = AllNumbered all scope depth n (all_have t trees) m

as_all : {s n : Names} {t ty : TyView} {trees : Nodes} → Fine (AllOf t) s trees ty n → FineAll s (all_have t trees) n
as_all f = record { grown = f.grown; known = f.known; typed = f.typed }

gives_all : (t : TyView) {s n : Names} {ty : TyView} (trees : Nodes) → FineAll s (all_have t trees) n → Sound (AllOf t) s (Gives trees ty n)
gives_all t trees f = record { fine = record { grown = f.grown; known = f.known; typed = f.typed } }

sound_each : (names : Names) (t : TyView) (clauses : List Checker) → AllSound clauses → Sound (AllOf t) names (check_each names t clauses)
sound_each names t [] h = gives_all t node.none nothing
sound_each names t (first ∷ rest) h =
    wanted t _ _ _ (h.0 names) (λ tree ty n e f. next _ _ (sound_each n t rest h.1)
    (λ trees last n' g. gives_all t (node.more tree trees) (both (one f) (as_all g))))

-- arguments, where they are as many as the parameters
abbrev ArgsOf : TyViews → List Field → List Entry → ℕ → ℕ → Nodes → TyView → ℕ → Type 0
ArgsOf tys all scope depth n trees ty m = (claims : List Claim) × Arguments trees tys claims × AllNumbered all scope depth n claims m

sound_args : (names : Names) (tys : TyViews) (args : List Checker) → AllSound args → count_types tys ≡ length args →
    Sound (ArgsOf tys) names (check_args names tys args)
sound_args names types.none [] h e = stays (ArgsOf types.none) (λ all scope depth k. ([], rule.no_more, num.no_more))
sound_args names (types.more t ts) (first ∷ rest) h e =
    wanted t _ _ _ (h.0 names) (λ tree ty n e' f. next _ _ (sound_args n ts rest h.1 (omega arith)) (λ trees last n' g.
    record {
      fine = record {
        grown = further_extends names.all n.all n'.all f.grown g.grown;
        known = λ scope depth k. g.known scope depth (f.known scope depth k);
        typed = λ all scope depth x k.
            let args = g.typed all scope depth x (f.known scope depth k) in
            (tree has t ∷ args.0, rule.one_more args.1, num.one_more (f.typed all scope depth (further_extends n.all n'.all all g.grown x) k) args.2);
      };
    }))
sound_args names (types.more t ts) [] h e = absurd (omega arith)
sound_args names types.none (first ∷ rest) h e = absurd (omega arith)

equal_counts : (a b : ℕ) → nat_eq a b ≡ true → a ≡ b
equal_counts a b e = eqb-true a b e

sound_with_args : (s names : Names) (line : Line) (tys : TyViews) (args : List Checker) (make : Nodes → Node) (ty : TyView) (before : List Claim) →
    FineAll s before names → AllSound args →
    ((scope : List Entry) (depth : ℕ) → Known scope depth names → (trees : Nodes) (claims : List Claim) → Arguments trees tys claims →
    Rule (make trees) (before ++ claims) ty) →
    Sound Is s (with_args names line tys args make ty)
sound_with_args s names line tys args make ty before f h is_rule =
    by_test (Sound Is s) (nat_eq (count_types tys) (length args)) _ _
    (λ same. next _ _ (sound_args names tys args h (equal_counts _ _ same)) (λ trees t n g. record {
      fine = record {
        grown = further_extends s.all names.all n.all f.grown g.grown;
        known = λ scope depth k. g.known scope depth (f.known scope depth k);
        typed = λ all scope depth x k.
            let own = f.known scope depth k in
            let args = g.typed all scope depth x own in
            num.by_rule (is_rule scope depth own trees args.0 args.1)
            (append_numbered (f.typed all scope depth (further_extends names.all n.all all g.grown x) k) args.2);
      };
    }))
    (λ differ. refuses)

sound_elements : (s names : Names) (line : Line) (v : Node) (t : TyView) (args : List Checker) → Fine Is s v t names → AllSound args →
    Sound Is s (elements names line v t args)
sound_elements s names line v t [] f h = record { fine = f }
sound_elements s names line v (types.Vector element) (i ∷ rest) f h =
    wanted types.Int _ _ _ (h.0 names) (λ i' int n e g.
    sound_elements s n line _ element rest (finishes Is (two (as_own f) g) (λ all scope depth i j k claims. num.by_rule rule.element claims)) h.1)
sound_elements s names line v other (i ∷ rest) f h = refuses

sound_value_applied : (s names : Names) (line : Line) (v : Node) (t : TyView) (phrases : Phrases) (args : List Checker) → Fine Is s v t names →
    AllSound args → Sound Is s (value_applied names line v t phrases args)
sound_value_applied s names line v (types.Proc tys ty) phrases args f h = sound_with_args s names line tys args _ ty (v has types.Proc tys ty ∷ [])
    (one (as_own f)) h (λ scope depth k trees claims are. rule.call are)
sound_value_applied s names line v (types.Vector element) phrases [] f h = refuses
sound_value_applied s names line v (types.Vector element) phrases (i ∷ rest) f h = sound_elements s names line v (types.Vector element) (i ∷ rest) f h
sound_value_applied s names line v types.Pntr phrases args f h = sound_field line v s names (field_name phrases) (one (as_own f))
sound_value_applied s names line v other phrases args f h = refuses

sound_scan_applied : (names : Names) (line : Line) (text : Bool) (args : List Checker) → AllSound args → Sound Is names (scan_applied names line text args)
sound_scan_applied names line text (a ∷ f ∷ []) h =
    wanted types.Pntr _ _ _ (h.0 names) (λ a t n e f. wanted _ _ _ _ (h.1.0 n)
    (λ b t' n' e' g. gives Is (two f g) (λ all scope depth i j k claims. num.scan claims)))
sound_scan_applied names line text other h = refuses

sound_name_applied : (names : Names) (line name_line : Line) (meaning : Option Meaning) (phrases : Phrases) (args : List Checker) →
    ((scope : List Entry) (depth : ℕ) → Known scope depth names → (m : Meaning) → meaning ≡ Some m → IsMeaning scope depth m) → AllSound args →
    Sound Is names (name_applied names line name_line meaning phrases args)
sound_name_applied names line name_line (Some (class text tys)) phrases args means h = sound_with_args names names line tys args
    (node.Make text) types.Pntr [] nothing h (λ scope depth k trees claims are. rule.make (means scope depth k _ refl) are)
sound_name_applied names line name_line (Some (library (plain code tys ty))) phrases args means h =
    sound_with_args names names line tys args (λ trees. node.Lib code trees line) ty [] nothing h
    (λ scope depth k trees claims are. rule.lib (means scope depth k (library (plain code tys ty)) refl) are)
sound_name_applied names line name_line (Some (library (scan text))) phrases args means h = sound_scan_applied names line text args h
sound_name_applied names line name_line (Some (local number t variable)) phrases args means h =
    sound_value_applied names names line (node.Name (Plain number) t) t phrases args (sound_used line names (Some (local number t variable)) means).fine h
sound_name_applied names line name_line None phrases args means h = refuses

sound_applied : (names : Names) (line name_line : Line) (name : Option (List ℕ)) (f : Outcome Node) (phrases : Phrases) (args : List Checker) →
    Sound Is names f → AllSound args → Sound Is names (applied names line name_line name f phrases args)
sound_applied names line name_line (Some name) f phrases args f_sound h = sound_name_applied names line name_line (meant names name) phrases args
    (λ scope depth k m e. k.means name m e) h
sound_applied names line name_line None f phrases args f_sound h = next _ _ f_sound (λ v t n g. sound_value_applied names n line v t phrases args g h)

-- the parameters of a procedure
record FineParams (before : Names) (made : List Param) (groups : List GroupAt) (all_made : List Param) (after : Names) : Type 0 where
  pub params : List Param
  pub made_is : all_made ≡ made ++ params
  pub types_are : types_of groups ≡ types_of_params params
  pub grown : Extends before.all after.all
  pub typed : (all : List Field) (scope : List Entry) (depth : ℕ) → Extends after.all all → Known scope depth before →
      (own : List Entry) × Params all scope depth (length before.all) params own (length after.all) × Known own depth after

abbrev GivenParams : Names → List Param → List GroupAt → Outcome (List Param) → Type 0
GivenParams before made groups (Gives all_made ty after) = FineParams before made groups all_made after
GivenParams before made groups (Refuses fault) = Unit {0}

record SoundParams (before : Names) (made : List Param) (groups : List GroupAt) (o : Outcome (List Param)) : Type 0 where
  pub fine : GivenParams before made groups o

one_param_more : (names : Names) (made : List Param) (group : GroupAt) (groups : List GroupAt) (o : Outcome (List Param)) →
    SoundParams (declare_local names group.name.name group.ty true)
    (made ++ record { ty = group.ty; place = Plain (length names.all) } ∷ []) groups o → SoundParams names made (group ∷ groups) o
one_param_more names made group groups (Gives all_made ty after) h =
    let f = h.fine in
    let param : Param = record { ty = group.ty; place = Plain (length names.all) } in
    let name : Field = record { ty = group.ty; name = group.name.name } in
    let own : Names = declare_local names group.name.name group.ty true in
    record {
      fine = record {
        params = param ∷ f.params;
        made_is = f.made_is ∙ append_assoc made (param ∷ []) f.params;
        types_are = ap (types.more group.ty) f.types_are;
        grown = further_extends names.all own.all after.all (one_extends names.all name) f.grown;
        typed = λ all scope depth x k.
            let rest = f.typed all (entry (length names.all) group.ty depth ∷ scope) depth x
            (known_local scope depth names group.name.name group.ty true k) in (
              rest.0,
              num.a_param (has_type names.all all name (further_extends own.all after.all all f.grown x))
                  (subst (λ (n : ℕ). Params all (entry (length names.all) group.ty depth ∷ scope) depth n f.params rest.0 (length after.all))
                  (length_one names.all name) rest.1),
              rest.2,
            );
      };
    }
one_param_more names made group groups (Refuses fault) h = record { fine = tt }

sound_params : (names : Names) (made : List Param) (groups : List GroupAt) → SoundParams names made groups (with_params names made groups)
sound_params names made [] = record {
  fine = record {
    params = [];
    made_is = sym (append-nil made);
    types_are = refl;
    grown = same_extends names.all;
    typed = λ all scope depth x k. (scope, num.no_params, k);
  };
}
sound_params names made (group ∷ groups) =
    by_test (SoundParams names made (group ∷ groups)) (is_declared names group.name.name) _ _ (λ twice. record { fine = tt })
    (λ once. one_param_more names made group groups _ (sound_params _ _ groups))

sound_parameters : (names : Names) (line : Line) (groups : List GroupAt) → SoundParams (inside names) [] groups (parameters names line groups)
sound_parameters names line groups = by_test (SoundParams (inside names) [] groups) (nat_lt most_parameters (length groups)) _ _ (λ many. record { fine = tt })
    (λ few. sound_params (inside names) [] groups)

next_params : {B : Type 0} {Q : List Field → List Entry → ℕ → ℕ → B → TyView → ℕ → Type 0} {s s' : Names} {groups : List GroupAt}
    (o : Outcome (List Param)) (k : List Param → TyView → Names → Outcome B) →
    SoundParams s' [] groups o → ((of : List Param) (ty : TyView) (names : Names) → FineParams s' [] groups of names → Sound Q s (k of ty names)) →
    Sound Q s (o >>= k)
unfolding ◌>>=◌
next_params (Gives of ty names) k h after = after of ty names h.fine
next_params (Refuses fault) k h after = refuses

fine_literal : (names : Names) (line : Line) (groups : List GroupAt) (ty : TyView) (made : List Param) (own last : Names) (s : Node) (t : TyView) →
    FineParams (inside names) [] groups made own → Fine (IsOf ty) own s t last →
    Fine Is names (node.Proc (body made ty s None line)) (types.Proc (types_of groups) ty) (behind names last)
fine_literal names line groups ty made own last s t f g = record {
  grown = further_extends names.all own.all last.all f.grown g.grown;
  known = λ scope depth k. known_behind scope depth names last k;
  typed = λ all scope depth x k.
      let params = f.typed all scope (depth + 1) (further_extends own.all last.all all g.grown x)
      (known_inside scope (depth + 1) names (known_deeper scope depth names k)) in
      let tree = g.typed all params.0 (depth + 1) x params.2 in
      let typed : Numbered all scope depth (length names.all) (node.Proc (body f.params ty s None line)) (types.Proc (types_of_params f.params) ty)
      (length last.all) = num.literal params.1 tree in
      subst (λ (ps : List Param). Numbered all scope depth (length names.all) (node.Proc (body ps ty s None line)) (types.Proc (types_of groups) ty)
      (length last.all)) (sym f.made_is)
      (subst (λ (ts : TyViews). Numbered all scope depth (length names.all) (node.Proc (body f.params ty s None line)) (types.Proc ts ty)
      (length last.all)) (sym f.types_are) typed);
}

sound_literal : (names : Names) (line : Line) (groups : List GroupAt) (ty : TyView) (s_line : Line) (check_s : Names → Outcome Node) →
    ((own : Names) → Sound Is own (check_s own)) → Sound Is names (literal names line groups ty s_line check_s)
sound_literal names line groups ty s_line check_s h =
    next_params _ _ (sound_parameters names line groups) (λ made t own f.
    wanted ty _ _ _ (h own) (λ s t' last e g. record { fine = fine_literal names line groups ty made own last s t' f g }))

-- `x := e`
set_name_numbered : {all : List Field} {scope : List Entry} {depth n m m' : ℕ} {place : Place} {t ty : TyView} {e : Node} →
    Numbered all scope depth n (node.Name place t) ty m → Numbered all scope depth m e ty m' → Numbered all scope depth n (node.SetName place t e) types.Void m'
set_name_numbered (num.name found below) e = num.set_name found below e
set_name_numbered (num.by_rule r claims) e = elim r [ ]

set_element_numbered : {all : List Field} {scope : List Entry} {depth n m m' : ℕ} {v i e : Node} {t ty : TyView} {line : Line} →
    Numbered all scope depth n (node.Element v i t line) ty m → Numbered all scope depth m e ty m' →
    Numbered all scope depth n (node.SetElement v i e t line) types.Void m'
set_element_numbered (num.by_rule rule.element claims) e = num.by_rule rule.set_element (append_numbered claims (num.one_more e num.no_more))

set_field_numbered : {all : List Field} {scope : List Entry} {depth n m m' : ℕ} {p e : Node} {class : List ℕ} {index : ℕ} {t ty : TyView} {line : Line} →
    Numbered all scope depth n (node.Field p class index t line) ty m → Numbered all scope depth m e ty m' →
    Numbered all scope depth n (node.SetField p class index t e line) types.Void m'
set_field_numbered (num.by_rule (rule.field is_field) claims) e = num.by_rule (rule.set_field is_field) (append_numbered claims (num.one_more e num.no_more))

-- the left side, and what is assigned to it
sound_target : (line e_line : Line) (can : Bool) (tree : Node) (wanted_ found : TyView) (s n names : Names) (x e : Node) → Fine Is s x wanted_ n →
    Fine Is n e found names →
    ((all : List Field) (scope : List Entry) (depth i m j : ℕ) → Numbered all scope depth i x wanted_ m → Numbered all scope depth m e wanted_ j →
    Numbered all scope depth i tree types.Void j) →
    Sound Is s (assigned line e_line can (Some tree) wanted_ found names)
unfolding assigned
sound_target line e_line true tree wanted_ found s n names x e f g h =
    by_test (Sound Is s) (is_same found wanted_) _ _
    (λ same. let g' = as_type (same_is_equal found wanted_ same) g in record {
      fine = record {
        grown = further_extends s.all n.all names.all f.grown g.grown;
        known = λ scope depth k. g.known scope depth (f.known scope depth k);
        typed = λ all scope depth y k. h all scope depth _ _ _ (f.typed all scope depth (further_extends n.all names.all all g.grown y) k)
            (g'.typed all scope depth y (f.known scope depth k));
      };
    })
    (λ differ. refuses)
sound_target line e_line false tree wanted_ found s n names x e f g h = refuses

no_target : (line e_line : Line) (can : Bool) (wanted_ found : TyView) (s names : Names) → Sound Is s (assigned line e_line can None wanted_ found names)
unfolding assigned
no_target line e_line true wanted_ found s names = refuses
no_target line e_line false wanted_ found s names = refuses

sound_assigned : (line e_line : Line) (can : Bool) (x e : Node) (wanted_ found : TyView) (s n names : Names) → Fine Is s x wanted_ n →
    Fine Is n e found names → Sound Is s (assigned line e_line can (assignment x e) wanted_ found names)
sound_assigned line e_line can (node.Name place t) e wanted_ found s n names f g = sound_target line e_line can _ wanted_ found s n names _ e f g
    (λ all scope depth i m j x y. set_name_numbered x y)
sound_assigned line e_line can (node.Element v i t l) e wanted_ found s n names f g = sound_target line e_line can _ wanted_ found s n names _ e f g
    (λ all scope depth i m j x y. set_element_numbered x y)
sound_assigned line e_line can (node.Field p of index t l) e wanted_ found s n names f g =
    sound_target line e_line can _ wanted_ found s n names _ e f g (λ all scope depth i m j x y. set_field_numbered x y)
sound_assigned line e_line can other e wanted_ found s n names f g = no_target line e_line can wanted_ found s names

-- an item of a sequence: what is known after it, and how it stands before the others
record FineItem (before : Names) (tree : Node) (ty : TyView) (after : Names) : Type 0 where
  pub grown : Extends before.all after.all
  pub typed : (all : List Field) (scope : List Entry) (depth : ℕ) → Extends after.all all → Known scope depth before →
      (own : List Entry) × Known own depth after × ((rest : Nodes) (last : TyView) (n : ℕ) →
      ItemsNumbered all own depth (length after.all) ty rest last n →
      ItemsNumbered all scope depth (length before.all) types.Void (node.more tree rest) last n)

abbrev GivenItem : Names → Outcome Node → Type 0
GivenItem before (Gives tree ty after) = FineItem before tree ty after
GivenItem before (Refuses fault) = Unit {0}

record SoundItem (before : Names) (o : Outcome Node) : Type 0 where
  pub fine : GivenItem before o

no_item : {before : Names} {fault : _} → SoundItem before (Refuses fault)
no_item = record { fine = tt }

clause_item : (s : Names) (o : Outcome Node) → Sound Is s o → SoundItem s o
clause_item s (Gives tree ty after) h = record {
  fine = record {
    grown = h.fine.grown;
    typed = λ all scope depth x k. (scope, h.fine.known scope depth k, λ rest last n items. num.a_clause (h.fine.typed all scope depth x k) items);
  };
}
clause_item s (Refuses fault) h = no_item

tested_item : {s s' : Names} (test : TyView → Bool) (t : TyView) (line : Line) (o : Outcome Node) (k : Node → TyView → Names → Outcome Node) →
    Sound Is s' o → ((tree : Node) (ty : TyView) (names : Names) → test ty ≡ true → Fine Is s' tree ty names → SoundItem s (k tree ty names)) →
    SoundItem s (passes test t line o >>= k)
unfolding ◌>>=◌ passes
tested_item {s = s} test t line (Gives tree ty names) k h after =
    by_test (λ (o : Outcome Node). SoundItem s (o >>= k)) (test ty) (Gives tree ty names) (Refuses _) (λ is. after tree ty names is h.fine) (λ isnt. no_item)
tested_item test t line (Refuses fault) k h after = no_item

-- `let x = e`
sound_introduced : (name : NameAt) (variable : Bool) (e : Node) (ty : TyView) (s names : Names) → isnt_void ty ≡ true → Fine Is s e ty names →
    SoundItem s (introduced name variable e ty names)
sound_introduced name variable e ty s names isnt f =
    let field : Field = record { ty = ty; name = name.name } in
    let own : Names = declare_local names name.name ty variable in
    by_test (SoundItem s) (is_declared names name.name) _ _ (λ twice. no_item) (λ once. record {
      fine = record {
        grown = further_extends s.all names.all own.all f.grown (one_extends names.all field);
        typed = λ all scope depth x k. (
          entry (length names.all) ty depth ∷ scope,
          known_local scope depth names name.name ty variable (f.known scope depth k),
          λ rest last n items. num.a_value isnt (f.typed all scope depth (further_extends names.all own.all all (one_extends names.all field) x) k)
              (has_type names.all all field x)
              (subst (λ (m : ℕ). ItemsNumbered all (entry (length names.all) ty depth ∷ scope) depth m types.Void rest last n)
              (length_one names.all field) items),
        );
      };
    })

-- `let f = proc..`
abbrev Procedure : TyView → List Field → List Entry → ℕ → ℕ → Node → TyView → ℕ → Type 0
Procedure of all scope depth n tree ty m = (ty ≡ of) × (procedure : BodyNode) × (tree ≡ node.Proc procedure) × Numbered all scope depth n tree ty m

sound_procedure : (names : Names) (line : Line) (groups : List GroupAt) (ty : TyView) (s_line : Line) (check_s : Names → Outcome Node) →
    ((own : Names) → Sound Is own (check_s own)) →
    Sound (Procedure (types.Proc (types_of groups) ty)) names (literal names line groups ty s_line check_s)
sound_procedure names line groups ty s_line check_s h =
    next_params _ _ (sound_parameters names line groups) (λ made t own f.
    wanted ty _ _ _ (h own) (λ s t' last e g. let l = fine_literal names line groups ty made own last s t' f g in record {
      fine = record { grown = l.grown; known = l.known; typed = λ all scope depth x k. (refl, body made ty s None line, refl, l.typed all scope depth x k) };
    }))

numbered_literal : {all : List Field} {scope : List Entry} {depth k m n : ℕ} {tree : Node} {t last : TyView} {rest : Nodes} (of : TyView)
    (procedure : BodyNode) → t ≡ of → tree ≡ node.Proc procedure → HasType all k of →
    Numbered all (entry k of depth ∷ scope) depth (k + 1) tree t m → ItemsNumbered all (entry k of depth ∷ scope) depth m types.Void rest last n →
    ItemsNumbered all scope depth k types.Void (node.more (node.Let (Plain k) t tree) rest) last n
numbered_literal {all = all} {scope = scope} {depth = depth} {k = k} {m = m} {n = n} {tree = tree} {t = t} {last = last}
    {rest = rest} of procedure t_is tree_is named numbered items =
    let own = entry k of depth ∷ scope in
    let as_of : Numbered all own depth (k + 1) tree of m = subst (λ (u : TyView). Numbered all own depth (k + 1) tree u m) t_is numbered in
    let as_literal : Numbered all own depth (k + 1) (node.Proc procedure) of m = subst (λ (u : Node). Numbered all own depth (k + 1) u of m) tree_is as_of in
    subst (λ (u : TyView). ItemsNumbered all scope depth k types.Void (node.more (node.Let (Plain k) u tree) rest) last n) (sym t_is)
    (subst (λ (u : Node). ItemsNumbered all scope depth k types.Void (node.more (node.Let (Plain k) of u) rest) last n) (sym tree_is)
    (num.a_literal named as_literal items))

literal_item : (names : Names) (name : NameAt) (variable : Bool) (of : TyView) (o : Outcome Node) →
    Sound (Procedure of) (declare_local names name.name of variable) o →
    SoundItem names (o >>= (λ e t last. Gives (node.Let (Plain (length names.all)) t e) types.Void last))
unfolding ◌>>=◌
literal_item names name variable of (Gives tree t after) h =
    let field : Field = record { ty = of; name = name.name } in
    let own : Names = declare_local names name.name of variable in
    record {
      fine = record {
        grown = further_extends names.all own.all after.all (one_extends names.all field) h.fine.grown;
        typed = λ all scope depth x k.
            let inside_it = known_local scope depth names name.name of variable k in
            let p = h.fine.typed all (entry (length names.all) of depth ∷ scope) depth x inside_it in
            let numbered = subst (λ (n : ℕ). Numbered all (entry (length names.all) of depth ∷ scope) depth n tree t (length after.all))
            (length_one names.all field) p.3 in (
              entry (length names.all) of depth ∷ scope,
              h.fine.known _ depth inside_it,
              λ rest last n items. numbered_literal of p.1 p.0 p.2
                  (has_type names.all all field (further_extends own.all after.all all h.fine.grown x)) numbered items,
            );
      };
    }
literal_item names name variable of (Refuses fault) h = no_item

sound_named_literal : (names : Names) (name : NameAt) (variable : Bool) (line : Line) (groups : List GroupAt) (ty : TyView) (s_line : Line)
    (check_s : Names → Outcome Node) → ((own : Names) → Sound Is own (check_s own)) →
    SoundItem names (named_literal names name variable line groups ty s_line check_s)
sound_named_literal names name variable line groups ty s_line check_s h =
    by_test (SoundItem names) (is_declared names name.name) _ _ (λ twice. no_item) (λ once.
    literal_item names name variable (types.Proc (types_of groups) ty) _
    (sound_procedure (declare_local names name.name (types.Proc (types_of groups) ty) variable) line groups ty s_line check_s h))

abbrev Items : TyView → List Field → List Entry → ℕ → ℕ → Nodes → TyView → ℕ → Type 0
Items before all scope depth n trees ty m = ItemsNumbered all scope depth n before trees ty m

-- items after an item, of which nothing is known at the end
record FineItems (before : Names) (of : TyView) (trees : Nodes) (ty : TyView) (after : Names) : Type 0 where
  pub grown : Extends before.all after.all
  pub typed : (all : List Field) (scope : List Entry) (depth : ℕ) → Extends after.all all → Known scope depth before →
      ItemsNumbered all scope depth (length before.all) of trees ty (length after.all)

abbrev GivenItems : Names → TyView → Outcome Nodes → Type 0
GivenItems before of (Gives trees ty after) = FineItems before of trees ty after
GivenItems before of (Refuses fault) = Unit {0}

record SoundItems (before : Names) (of : TyView) (o : Outcome Nodes) : Type 0 where
  pub fine : GivenItems before of o

next_items : {s : Names} (o : Outcome Node) (then_ : Node → TyView → Names → Outcome Nodes) → SoundItem s o →
    ((tree : Node) (ty : TyView) (n : Names) → SoundItems n ty (then_ tree ty n)) →
    SoundItems s types.Void (o >>= (λ tree ty n. then_ tree ty n >>= (λ trees last m. Gives (node.more tree trees) last m)))
unfolding ◌>>=◌
next_items {s = s} (Gives tree ty n) then_ h after = more_items_of (then_ tree ty n) (after tree ty n)
  where
    more_items_of : (o : Outcome Nodes) → SoundItems n ty o → SoundItems s types.Void (o >>= (λ trees last m. Gives (node.more tree trees) last m))
    more_items_of (Gives trees last m) g = record {
      fine = record {
        grown = further_extends s.all n.all m.all h.fine.grown g.fine.grown;
        typed = λ all scope depth x k.
            let first = h.fine.typed all scope depth (further_extends n.all m.all all g.fine.grown x) k in
            first.2 trees last (length m.all) (g.fine.typed all first.0 depth x first.1);
      };
    }
    more_items_of (Refuses fault) g = record { fine = tt }
next_items (Refuses fault) then_ h after = record { fine = tt }

block_of : (names : Names) (o : Outcome Nodes) → SoundItems (inside names) types.Void o →
    Sound Is names (o >>= (λ trees t last. Gives (node.Block None trees) t (behind names last)))
unfolding ◌>>=◌
block_of names (Gives trees t last) h = record {
  fine = record {
    grown = h.fine.grown;
    known = λ scope depth k. known_behind scope depth names last k;
    typed = λ all scope depth x k. num.block (h.fine.typed all scope depth x (known_inside scope depth names k));
  };
}
block_of names (Refuses fault) h = refuses

-- a loop by `for`
sound_loop : (s n last : Names) (name : List ℕ) (a b c tree : Node) (line : Line) (t : TyView) →
    FineAll s (a has types.Int ∷ b has types.Int ∷ c has types.Int ∷ []) n →
    Fine (IsOf types.Void) (declare_local (inside n) name types.Int false) tree t last →
    Sound Is s (Gives (node.For 0 a b c None (Plain (length n.all)) tree line) types.Void (behind n last))
sound_loop s n last name a b c tree line t f g =
    let field : Field = record { ty = types.Int; name = name } in
    let own : Names = declare_local (inside n) name types.Int false in
    let own_extends = further_extends n.all own.all last.all (one_extends n.all field) g.grown in
    record {
      fine = record {
        grown = further_extends s.all n.all last.all f.grown own_extends;
        known = λ scope depth k. known_behind scope depth n last (f.known scope depth k);
        typed = λ all scope depth x k.
            let known = known_local scope depth (inside n) name types.Int false (known_inside scope depth n (f.known scope depth k)) in
            let tree' = subst (λ (m : ℕ). Numbered all (entry (length n.all) types.Int depth ∷ scope) depth m tree types.Void (length last.all))
            (length_one n.all field) (g.typed all _ depth x known) in
            num.loop (f.typed all scope depth (further_extends n.all last.all all own_extends x) k)
            (has_type n.all all field (further_extends own.all last.all all g.grown x)) tree';
      };
    }

-- the items of a `write`
blocks : {all : List Field} {scope : List Entry} {depth n m : ℕ} (trees : Nodes) → AllNumbered all scope depth n (all_have types.Void trees) m →
    ItemsNumbered all scope depth n types.Void trees types.Void m
blocks node.none num.no_more = num.at_end
blocks (node.more first rest) (num.one_more f r) = num.a_clause f (blocks rest r)

all_together : {all : List Field} {scope : List Entry} {depth n m : ℕ} (trees : Nodes) → AllNumbered all scope depth n (all_have types.Void trees) m →
    Numbered all scope depth n (together trees) types.Void m
all_together node.none h = num.block (blocks node.none h)
all_together (node.more first node.none) (num.one_more f num.no_more) = f
all_together (node.more first (node.more second rest)) h = num.block (blocks (node.more first (node.more second rest)) h)

-- the arms of a `case`: clauses of this type where one is given, else of that of the first
abbrev ArmsOf : TyView → Option TyView → List Field → List Entry → ℕ → ℕ → node.Arms → TyView → ℕ → Type 0
ArmsOf t None all scope depth n arms ty m = AllNumbered all scope depth n (arms_have t ty arms) m
ArmsOf t (Some of) all scope depth n arms ty m = AllNumbered all scope depth n (arms_have t of arms) m

arms_as : {t of ty : TyView} {s n : Names} {arms : node.Arms} → Fine (ArmsOf t (Some of)) s arms ty n → FineAll s (arms_have t of arms) n
arms_as f = record { grown = f.grown; known = f.known; typed = f.typed }

first_arms_as : {t ty : TyView} {s n : Names} {arms : node.Arms} → Fine (ArmsOf t None) s arms ty n → FineAll s (arms_have t ty arms) n
first_arms_as f = record { grown = f.grown; known = f.known; typed = f.typed }

gives_first_arms : {t : TyView} {s n : Names} (ty : TyView) (arms : node.Arms) → FineAll s (arms_have t ty arms) n → Sound (ArmsOf t None) s (Gives arms ty n)
gives_first_arms ty arms f = record { fine = record { grown = f.grown; known = f.known; typed = f.typed } }

gives_arms : {t : TyView} {s n : Names} (of ty : TyView) (arms : node.Arms) → FineAll s (arms_have t of arms) n → Sound (ArmsOf t (Some of)) s (Gives arms ty n)
gives_arms of ty arms f = record { fine = record { grown = f.grown; known = f.known; typed = f.typed } }

-- the last part of a `case`
sound_default : (s n n' : Names) (e : Node) (arms : node.Arms) (t given : TyView) (line : Line) (d : Outcome Node) → is_equated t ≡ true →
    FineAll s (e has t ∷ []) n → Fine (ArmsOf t None) n arms given n' → Sound Is n' d →
    Sound Is s (like (first_type arms given) line d >>= (λ d given names. Gives (node.Case e arms d t) given names))
sound_default s n n' e node.no_arms t given line d is f g h = next _ _ h (λ d' own m k. ends (both f (both (first_arms_as g) (one (as_own k)))) (rule.case is))
sound_default s n n' e (node.more_arms first rest) t given line d is f g h =
    wanted given line d _ h (λ d' own m same k. ends (both f (both (first_arms_as g) (one k)))
    (subst (λ (u : TyView). Rule (node.Case e (node.more_arms first rest) d' t)
    (e has t ∷ (arms_have t given (node.more_arms first rest) ++ d' has given ∷ [])) u) (sym same) (rule.case is)))

at_once : {A B : Type 0} {Q : List Field → List Entry → ℕ → ℕ → B → TyView → ℕ → Type 0} {s : Names} (of : A) (ty : TyView) (n : Names)
    (k : A → TyView → Names → Outcome B) → Sound Q s (k of ty n) → Sound Q s (Gives of ty n >>= k)
unfolding ◌>>=◌
at_once of ty n k h = h

sound_narrow : (s n : Names) (e : Node) (t : TyView) (line : Line) → is_writable t ≡ true → Fine Is s e t n →
    FineAll s (node.Write e node.Empty false t line has types.Void ∷ []) n
sound_narrow s n e t line is f =
    let nothing_wide : Sound (IsOf types.Void) n (Gives node.Empty types.Void n) = stays (IsOf types.Void)
    (λ all scope depth k. num.by_rule rule.empty num.no_more) in
    one (as_own (finishes Is {ty = types.Void} (two (as_own f) nothing_wide.fine) (λ all scope depth i j k claims. num.by_rule (rule.write is) claims)))

sound_wide : (s n n' : Names) (e w : Node) (t wide : TyView) (line : Line) → is_writable t ≡ true → Fine Is s e t n → wide ≡ types.Int →
    Fine (IsOf types.Int) n w wide n' → FineAll s (node.Write e w (is_present wide) t line has types.Void ∷ []) n'
sound_wide s n n' e w t wide line is f wide_is g =
    let r : Rule (node.Write e w (is_present wide) t line) (e has t ∷ w has types.Int ∷ []) types.Void =
    subst (λ (u : TyView). Rule (node.Write e w (is_present u) t line) (e has t ∷ w has types.Int ∷ []) types.Void) (sym wide_is) (rule.write_wide is) in
    one (as_own (finishes Is {ty = types.Void} (two (as_own f) g) (λ all scope depth i j k claims. num.by_rule r claims)))

items_behind : (names : Names) (before : TyView) (o : Outcome Nodes) → before ≡ types.Void → SoundItems names types.Void o → SoundItems names before o
items_behind names before o e h = subst (λ (t : TyView). SoundItems names t o) (sym e) h

mutual
  pub sound : (names : Names) (p : Phrase) → LetsStand false p → Sound Is names (check names p)
  sound names (at form line) h = sound_form names line form h

  sound_form : (names : Names) (line : Line) (f : Form) → LetsStandIn false f → Sound Is names (check_form names line f)
  sound_form names line (form.Let name variable e) h = absurd (let e = h.0 in cc)
  sound_form names line (form.Structure name fields) h = sound_structure names line name fields
  sound_form names line (form.Name name) h = sound_used line names (meant names name) (λ scope depth k m e. k.means name m e)
  sound_form names line form.Nil h = ends nothing rule.nil
  sound_form names line (form.Int value) h = ends nothing rule.int
  sound_form names line (form.Text bytes) h = ends nothing rule.text
  sound_form names line (form.Flag value) h = ends nothing rule.flag
  sound_form names line (form.IfDo c a) h =
      wanted _ _ _ _ (sound names c h.0) (λ c t n e f. wanted _ _ _ _ (sound n a h.1) (λ a t n e g. ends (two f g) rule.if_do))
  sound_form names line (form.While c a) h =
      wanted _ _ _ _ (sound names c h.0) (λ c t n e f. wanted _ _ _ _ (sound n a h.1) (λ a t n e g. ends (two f g) rule.while))
  sound_form names line (form.Repeat a c b) h =
      wanted _ _ _ _ (sound names a h.0) (λ a t n e f.
      wanted _ _ _ _ (sound n c h.1) (λ c t n e g.
      next _ _ (sound_if_any n types.Void node.Empty b h.2 (λ all scope depth i. num.by_rule rule.empty num.no_more))
      (λ b t n k. ends (three f g k) rule.repeat)))
  sound_form names line (form.IfElse c a b) h =
      wanted _ _ _ _ (sound names c h.0) (λ c t n e f.
      next _ _ (sound n a h.1) (λ a t n g.
      wanted _ _ _ _ (sound n b h.2) (λ b same n e k. ends (three f (as_own g) k) rule.if_else)))
  sound_form names line (form.For name a b c s) h =
      wanted _ _ _ _ (sound names a h.0) (λ a t n e f.
      wanted _ _ _ _ (sound n b h.1) (λ b t n e g.
      next _ _ (sound_if_any n types.Int (node.Int (pos 1)) c h.2 (λ all scope depth i. num.by_rule rule.int num.no_more)) (λ c t n k.
      wanted _ _ _ _ (sound (declare_local (inside n) name.name types.Int false) s h.3)
      (λ s t last e l. sound_loop names n last name.name a b c s line t (three f g k) l))))
  sound_form names line (form.Case e arms d) h =
      tested is_equated _ _ _ _ (sound names e h.0) (λ e t n is f.
      next _ _ (sound_arms n t None arms h.1) (λ arms given n' g.
      sound_default names n n' e arms t given _ _ is (one (as_own f)) g (sound n' d h.2)))
  sound_form names line (form.Write items) h = next _ _ (sound_written names items h)
      (λ trees t n f. gives Is (as_all f) (λ all scope depth i j k claims. all_together trees claims))
  sound_form names line form.Abort h = ends nothing rule.abort
  sound_form names line (form.Proc params ty s) h = sound_literal names line params ty (line_of s) (λ own. check own s) (λ own. sound own s h)
  sound_form names line (form.Vector l u e) h =
      wanted _ _ _ _ (sound names l h.0) (λ l t n e' f.
      wanted _ _ _ _ (sound n u h.1) (λ u t n e' g.
      tested isnt_void _ _ _ _ (sound n e h.2) (λ e t n is k. ends (three f g (as_own k)) (rule.fill is))))
  sound_form names line (form.Elems l t items) h =
      wanted _ _ _ _ (sound names l h.0) (λ l int n e f.
      next _ _ (sound_each n t (checkers items) (all_sound items h.1)) (λ items last n g. ends (both (one f) (as_all g)) rule.elems))
  sound_form names line (form.Assign x e) h =
      next _ _ (sound names x h.0) (λ x' t n f.
      next _ _ (sound n e h.1) (λ e' found n' g. sound_assigned line (line_of e) _ x' e' t found names n n' f g))
  sound_form names line (form.Or a b) h =
      wanted _ _ _ _ (sound names a h.0) (λ a t n e f. wanted _ _ _ _ (sound n b h.1) (λ b t n e g. ends (two f g) rule.or))
  sound_form names line (form.And a b) h =
      wanted _ _ _ _ (sound names a h.0) (λ a t n e f. wanted _ _ _ _ (sound n b h.1) (λ b t n e g. ends (two f g) rule.and))
  sound_form names line (form.Not e) h = wanted _ _ _ _ (sound names e h) (λ e t n e' f. ends (one f) rule.not)
  sound_form names line (form.Compare op a b) h =
      tested (is_comparable op) _ _ _ _ (sound names a h.0)
      (λ a t n is f. wanted _ _ _ _ (sound n b h.1) (λ b same n e g. ends (two (as_own f) g) (rule.compare is)))
  sound_form names line (form.Is e name negated) h =
      wanted _ _ _ _ (sound names e h) (λ e t n e' f. sound_is_of name negated e names n (meant n name.name) (one f)
      (λ scope depth k m e. k.means name.name m e))
  sound_form names line (form.Arith op a b) h =
      wanted _ _ _ _ (sound names a h.0) (λ a t n e f. wanted _ _ _ _ (sound n b h.1) (λ b t n e g. ends (two f g) rule.arith))
  sound_form names line (form.Plus e) h = wanted _ _ _ _ (sound names e h) (λ e t n e' f. ends (one f) rule.plus)
  sound_form names line (form.Neg e) h = wanted _ _ _ _ (sound names e h) (λ e t n e' f. ends (one f) rule.neg)
  sound_form names line (form.Join a b) h =
      wanted _ _ _ _ (sound names a h.0) (λ a t n e f. wanted _ _ _ _ (sound n b h.1) (λ b t n e g. ends (two f g) rule.join))
  sound_form names line (form.Bound upper e) h =
      tested is_vector _ _ _ _ (sound names e h) (λ e t n is f. let v = vector_of t is in ends (one (as_type v.1 f)) rule.bound)
  sound_form names line (form.Apply f args) h = sound_applied names line (line_of f) (name_in f) (check names f) args (checkers args)
      (sound names f h.0) (all_sound args h.1)
  sound_form names line (form.Part s i n) h =
      wanted _ _ _ _ (sound names s h.0) (λ s t names' e f.
      wanted _ _ _ _ (sound names' i h.1) (λ i t names' e g.
      wanted _ _ _ _ (sound names' n h.2) (λ n t names' e k. ends (three f g k) rule.part)))
  sound_form names line (form.Sequence items) h = block_of names _ (sound_all (inside names) line types.Void items h)

  all_sound : (items : Phrases) → LetsStandInAll false items → AllSound (checkers items)
  all_sound none h = tt
  all_sound (more first rest) h = (λ names. sound names first h.0, all_sound rest h.1)

  sound_if_any : (names : Names) (t : TyView) (otherwise : Node) (p : MaybePhrase) → LetsStandInMaybe p →
      ((all : List Field) (scope : List Entry) (depth i : ℕ) → Numbered all scope depth i otherwise t i) →
      Sound (IsOf t) names (check_if_any names t otherwise p)
  sound_if_any names t otherwise absent h typed = stays (IsOf t) (λ all scope depth k. typed all scope depth (length names.all))
  sound_if_any names t otherwise (present e) h typed = of_type t (line_of e) _ (sound names e h)

  sound_arms : (names : Names) (t : TyView) (given : Option TyView) (arms : Arms) → LetsStandInArms arms →
      Sound (ArmsOf t given) names (check_arms names t given arms)
  sound_arms names t None no_arms h = gives_first_arms _ node.no_arms nothing
  sound_arms names t (Some of) no_arms h = gives_arms of _ node.no_arms nothing
  sound_arms names t None (more_arms (arm labels a) rest) h =
      next _ _ (sound_each names t (checkers labels) (all_sound labels h.0)) (λ labels same n f.
      next _ _ (sound n a h.1) (λ a own n g.
      next _ _ (sound_arms n t (Some own) rest h.2) (λ rest last n k. gives_first_arms own (node.more_arms (node.arm labels a) rest)
      (both (as_all f) (both (one (as_own g)) (arms_as k))))))
  sound_arms names t (Some of) (more_arms (arm labels a) rest) h =
      next _ _ (sound_each names t (checkers labels) (all_sound labels h.0)) (λ labels same n f.
      wanted of _ _ _ (sound n a h.1) (λ a own n e g.
      next _ _ (sound_arms n t (Some own) rest h.2) (λ rest last n' k. gives_arms of own (node.more_arms (node.arm labels a) rest)
      (both (as_all f) (both (one g) (subst (λ (o : TyView). FineAll n (arms_have t o rest) n') e (arms_as k)))))))

  sound_item : (names : Names) (p : Phrase) → LetsStand true p → SoundItem names (check names p)
  sound_item names (at (form.Let name variable (at (form.Proc params ty s) e_line)) line) h =
      sound_named_literal names name variable e_line params ty (line_of s) (λ own. check own s) (λ own. sound own s h.1)
  sound_item names (at (form.Let name variable e) line) h =
      tested_item isnt_void _ _ _ _ (sound names e h.1) (λ e t n is f. sound_introduced name variable e t names n is f)
  sound_item names (at other line) h = clause_item names _ (sound_form names line other h)

  sound_all : (names : Names) (line : Line) (before : TyView) (items : Phrases) → LetsStandInAll true items →
      SoundItems names before (check_all names line before items)
  sound_all names line before none h = record { fine = record { grown = same_extends names.all; typed = λ all scope depth x k. num.at_end } }
  sound_all names line before (more clause rest) h =
      by_test (SoundItems names before) (is_same before types.Void) _ _
      (λ void. items_behind names before _ (same_is_equal before types.Void void)
      (next_items _ (λ tree t n. check_all n (line_of clause) t rest) (sound_item names clause h.0) (λ tree t n. sound_all n (line_of clause) t rest h.1)))
      (λ value. record { fine = tt })

  sound_written : (names : Names) (items : WriteItems) → LetsStandInWritten items → Sound (AllOf types.Void) names (check_written names items)
  sound_written names no_items h = gives_all types.Void node.none nothing
  sound_written names (more_items (item e absent line) rest) h =
      tested is_writable _ _ _ _ (sound names e h.0) (λ e t n is f.
      at_once _ _ n _ (next _ _ (sound_written n rest h.2)
      (λ rest last n' k. gives_all types.Void (node.more _ rest) (both (sound_narrow names n e t line is f) (as_all k)))))
  sound_written names (more_items (item e (present w) line) rest) h =
      tested is_writable _ _ _ _ (sound names e h.0) (λ e t n is f.
      wanted _ _ _ _ (sound n w h.1) (λ w wide n' e' g.
      next _ _ (sound_written n' rest h.2) (λ rest last n'' k. gives_all types.Void (node.more _ rest)
      (both (sound_wide names n n' e w t wide line is f e' g) (as_all k)))))
