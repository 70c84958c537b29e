-- What the names of scopes hold, and what a new value of a name leaves, whichever bodies are procedures.
use Rattle.std.proofs.Common.{◌≡◌, ◌⊎◌, ℕ, zero, suc, pos, true, false, List, [], ◌∷◌, map, set, Option, Some, inl, inr, refl, sym, ap, ◌∙◌, subst, arith}
use Rattle.std.specs.Prelude.{codes}
use Rattle.ps_meaning.specs.ps_base.TyView.{TyView}
use Rattle.ps_meaning.specs.ps_base.TyView as types
use Rattle.ps_type_text.specs.Texts.{Field, class_text, IsNamed}
use Rattle.ps_meaning.specs.text_forms.declared.forms.Form.{Form}
use Rattle.ps_meaning.specs.text_forms.Classes.{form_of_type, form_of_field}
use Rattle.ps_meaning.specs.text_forms.Forms.{forms_of, form_in}
use Rattle.ps_heap.proofs.of_text_forms.ClassForms.{class-told}
use Rattle.ps_meaning.specs.ps_typing.WellTyped.{At, IsOfType}
use Rattle.ps_heap.specs.Values.{Value, Num, Flag, Text, Nil, Pointer, Vector, Procedure, as_written, Nothing}
use Rattle.ps_heap.specs.Objects.{Heap, Object, Scope, object_at, with_object, value_at, kept_as}
use Rattle.ps_heap.specs.Scopes.{first_value, scope_out, with_name_in, with_name, with_kept_name}
use Rattle.ps_soundness.specs.Over.{IsOf, AreNames, IsTypedHeap}
use Rattle.ps_soundness.specs.Shapes.{is_given, HasValue, StayGiven, Grows}
use Rattle.ps_soundness.proofs.Notion.{Kind}
use Rattle.ps_soundness.proofs.Telling.{Told}
use Rattle.ps_soundness.proofs.Growing.{grows_set, typed_with, names_kept}
use Rattle.ps_soundness.proofs.Fields.{form_at}

-- What a name holds: a value of its type, or what it held at first.
abbrev pub Holds : (kind : Kind) → Heap → TyView → Value → Type 0
Holds kind heap ty v = IsOf kind.asked heap ty v ⊎ (v ≡ first_value (form_of_type ty))

pub nil_given : (v : Value) → is_given v ≡ true → v ≡ Nil → ⊥
nil_given v h e = let given : is_given Nil ≡ true = ap is_given (sym e) ∙ h in cc

-- where it has its value, this is one of its type
pub value_of : (kind : Kind) (heap : Heap) (ty : TyView) (v : Value) → Holds kind heap ty v → HasValue ty v → IsOf kind.asked heap ty v
value_of kind heap ty v (inl is) h = is
value_of kind heap types.Int v (inr e) h = subst (IsOf kind.asked heap types.Int) (sym e) refl
value_of kind heap types.Bool v (inr e) h = subst (IsOf kind.asked heap types.Bool) (sym e) tt
value_of kind heap types.Pntr v (inr e) h = subst (IsOf kind.asked heap types.Pntr) (sym e) tt
value_of kind heap types.Str v (inr e) h = absurd (nil_given v h e)
value_of kind heap types.Void v (inr e) h = absurd (nil_given v h e)
value_of kind heap (types.Vector element) v (inr e) h = absurd (nil_given v h e)
value_of kind heap (types.Proc parameters gives) v (inr e) h = absurd (nil_given v h e)

-- and a value of its type is one that it has
pub has_value : (kind : Kind) (heap : Heap) (ty : TyView) (v : Value) → IsOf kind.asked heap ty v → HasValue ty v
has_value kind heap types.Int v h = tt
has_value kind heap types.Bool v h = tt
has_value kind heap types.Pntr v h = tt
has_value kind heap types.Str (Text bytes) h = refl
has_value kind heap types.Str v h = absurd h
has_value kind heap types.Void Nothing h = refl
has_value kind heap types.Void v h = absurd h
has_value kind heap (types.Vector element) (Vector id) h = refl
has_value kind heap (types.Vector element) v h = absurd h
has_value kind heap (types.Proc parameters gives) (Procedure (as_written of) scope) h = refl
has_value kind heap (types.Proc parameters gives) v h = absurd h

-- a value that is given gives way to one only
pub given_first : (ty : TyView) (v : Value) → v ≡ first_value (form_of_type ty) → is_given v ≡ true → ⊥
given_first types.Int v e h = let given : is_given (Num (pos 0)) ≡ true = ap is_given (sym e) ∙ h in cc
given_first types.Bool v e h = let given : is_given (Flag false) ≡ true = ap is_given (sym e) ∙ h in cc
given_first types.Str v e h = nil_given v h e
given_first types.Pntr v e h = nil_given v h e
given_first types.Void v e h = nil_given v h e
given_first (types.Vector element) v e h = nil_given v h e
given_first (types.Proc parameters gives) v e h = nil_given v h e

-- a value that a name may have takes the place of a given one
pub given_as : (kind : Kind) (heap : Heap) (ty : TyView) (old v : Value) → Holds kind heap ty old → HasValue ty v → is_given old ≡ true → is_given v ≡ true
given_as kind heap ty old v (inr e) has given = absurd (given_first ty old e given)
given_as kind heap types.Int (Num z) v (inl h) has given = absurd cc
given_as kind heap types.Int old v (inl h) has given = absurd h
given_as kind heap types.Bool (Flag b) v (inl h) has given = absurd cc
given_as kind heap types.Bool old v (inl h) has given = absurd h
given_as kind heap types.Pntr Nil v (inl h) has given = absurd cc
given_as kind heap types.Pntr (Pointer id) v (inl h) has given = absurd cc
given_as kind heap types.Pntr old v (inl h) has given = absurd h
given_as kind heap types.Str old v (inl h) has given = has
given_as kind heap types.Void old v (inl h) has given = has
given_as kind heap (types.Vector element) old v (inl h) has given = has
given_as kind heap (types.Proc parameters gives) old v (inl h) has given = has

pub given_then : (kind : Kind) (heap now : Heap) (ty : TyView) (old v : Value) → Holds kind heap ty old → IsOf kind.asked now ty v → is_given old ≡ true → is_given v ≡ true
given_then kind heap now ty old v holds is given = given_as kind heap ty old v holds (has_value kind now ty v is) given

-- the name at a position, which is of a type that is asked of names where it has its value
pub name_is : (kind : Kind) (heap : Heap) (whole : List Field) (names : List Value) (position : ℕ) (ty : TyView) → AreNames kind.asked heap whole names →
    At (IsOfType ty) whole position → (IsOf kind.asked heap ty (value_at names position) × kind.asked.named ty) ⊎ (value_at names position ≡ first_value (form_of_type ty))
name_is kind heap [] names position ty are at = absurd at
name_is kind heap (field ∷ fields) [] position ty are at = absurd are
name_is kind heap (field ∷ fields) (v ∷ vs) zero ty are (inl h) =
    subst (λ (t : TyView). (IsOf kind.asked heap t v × kind.asked.named t) ⊎ (v ≡ first_value (form_of_type t))) h.1 are.0
name_is kind heap (field ∷ fields) (v ∷ vs) zero ty are (inr h) = absurd (let e = h.1 in omega arith)
name_is kind heap (field ∷ fields) (v ∷ vs) (suc position) ty are (inl h) = absurd (let e = h.0 in omega arith)
name_is kind heap (field ∷ fields) (v ∷ vs) (suc position) ty are (inr (before, e, h)) =
    name_is kind heap fields vs position ty are.1 (subst (At (IsOfType ty) fields) (let same : before ≡ position = omega arith in same) h)

pub name_holds : (kind : Kind) (heap : Heap) (whole : List Field) (names : List Value) (position : ℕ) (ty : TyView) → AreNames kind.asked heap whole names →
    At (IsOfType ty) whole position → Holds kind heap ty (value_at names position)
name_holds kind heap whole names position ty are at = elim (name_is kind heap whole names position ty are at) [ inl h ↦ inl h.0 | inr e ↦ inr e ]

pub names_set : (kind : Kind) (heap : Heap) (whole : List Field) (names : List Value) (position : ℕ) (ty : TyView) (v : Value) → AreNames kind.asked heap whole names →
    At (IsOfType ty) whole position → kind.asked.named ty → IsOf kind.asked heap ty v → AreNames kind.asked heap whole (set names position v)
names_set kind heap [] names position ty v are at named is = absurd at
names_set kind heap (field ∷ fields) [] position ty v are at named is = absurd are
names_set kind heap (field ∷ fields) (old ∷ vs) zero ty v are (inl h) named is = (inl (subst (λ (t : TyView). IsOf kind.asked heap t v) (sym h.1) is, subst kind.asked.named (sym h.1) named), are.1)
names_set kind heap (field ∷ fields) (old ∷ vs) zero ty v are (inr h) named is = absurd (let e = h.1 in omega arith)
names_set kind heap (field ∷ fields) (old ∷ vs) (suc position) ty v are (inl h) named is = absurd (let e = h.0 in omega arith)
names_set kind heap (field ∷ fields) (old ∷ vs) (suc position) ty v are (inr (before, e, h)) named is =
    (are.0, names_set kind heap fields vs position ty v are.1 (subst (At (IsOfType ty) fields) (let same : before ≡ position = omega arith in same) h) named is)

pub stay_same : (names : List Value) → StayGiven names names
stay_same [] = tt
stay_same (v ∷ vs) = (λ e. e, stay_same vs)

pub stay_set : (names : List Value) (position : ℕ) (v : Value) → (is_given (value_at names position) ≡ true → is_given v ≡ true) →
    StayGiven names (set names position v)
stay_set [] position v h = tt
stay_set (old ∷ vs) zero v h = (h, stay_same vs)
stay_set (old ∷ vs) (suc position) v h = (λ e. e, stay_set vs position v h)

-- a scope with all of these names, so many levels out from another one
pub record IsFound (heap : Heap) (scope : Option ℕ) (up : ℕ) (whole : List Field) (names : List Value) : Type 0 where
  pub id : ℕ
  pub out : scope_out heap scope up ≡ Some id
  pub parent : Option ℕ
  pub is : object_at heap id ≡ Some (Scope (class_text (codes "scope") whole) parent names)
  pub named : IsNamed (codes "scope") whole

-- the names of a scope of a typed heap
pub names_are : (kind : Kind) (told : Told) (heap : Heap) (scope : Option ℕ) (up : ℕ) (whole : List Field) (names : List Value) → IsTypedHeap kind.asked heap →
    IsFound heap scope up whole names → AreNames kind.asked heap whole names
names_are kind told heap scope up whole names typed f =
    let t = typed f.id (Scope (class_text (codes "scope") whole) f.parent names) f.is in
    let same = told.classes (codes "scope") (codes "scope") whole t.fields f.named t.named t.text_is in
    subst (λ (fields : List Field). AreNames kind.asked heap fields names) (sym same.1) t.are

-- what is written: the scope with another value of the name
abbrev pub after_set : (heap : Heap) (scope : Option ℕ) (up : ℕ) (whole : List Field) (names : List Value) → IsFound heap scope up whole names →
    ℕ → Value → Heap
after_set heap scope up whole names f position v =
    with_object heap f.id (Scope (class_text (codes "scope") whole) f.parent (set names position v))

pub set_is : (heap : Heap) (scope : Option ℕ) (up position : ℕ) (whole : List Field) (names : List Value) (ty : TyView) (v : Value)
    (f : IsFound heap scope up whole names) → At (IsOfType ty) whole position → kept_as (Some (form_of_type ty)) v ≡ v →
    with_kept_name heap scope up position v ≡ after_set heap scope up whole names f position v
unfolding with_name
set_is heap scope up position whole names ty v f at kept =
    let text = class_text (codes "scope") whole in
    let form_is : form_in (forms_of text) position ≡ Some (form_of_type ty) =
    ap (λ (forms : List Form). form_in forms position) (class-told (codes "scope") whole f.named) ∙ form_at whole position ty at in
    ap (λ (o : Option ℕ). with_name heap o position v) f.out
    ∙ ap (λ (o : Option Object). with_name_in heap f.id o position v) f.is
    ∙ ap (λ (w : Value). with_object heap f.id (Scope text f.parent (set names position w)))
    (ap (λ (form : Option Form). kept_as form v) form_is ∙ kept)

-- it leaves the heap typed, and grown
pub set_grows : (heap : Heap) (scope : Option ℕ) (up position : ℕ) (whole : List Field) (names : List Value) (v : Value)
    (f : IsFound heap scope up whole names) → (is_given (value_at names position) ≡ true → is_given v ≡ true) →
    Grows heap (after_set heap scope up whole names f position v)
set_grows heap scope up position whole names v f held =
    let text = class_text (codes "scope") whole in
    grows_set heap f.id (Scope text f.parent names) (Scope text f.parent (set names position v)) f.is (refl, refl, stay_set names position v held)

pub set_typed : (kind : Kind) (told : Told) (heap : Heap) (scope : Option ℕ) (up position : ℕ) (whole : List Field) (names : List Value) (ty : TyView) (v : Value)
    (f : IsFound heap scope up whole names) → (is_given (value_at names position) ≡ true → is_given v ≡ true) → IsTypedHeap kind.asked heap →
    At (IsOfType ty) whole position → kind.asked.named ty → IsOf kind.asked (after_set heap scope up whole names f position v) ty v →
    IsTypedHeap kind.asked (after_set heap scope up whole names f position v)
set_typed kind told heap scope up position whole names ty v f held typed at named is =
    let text = class_text (codes "scope") whole in
    let new = after_set heap scope up whole names f position v in
    let grows = set_grows heap scope up position whole names v f held in
    let are = names_kept kind heap new grows whole names (names_are kind told heap scope up whole names typed f) in
    typed_with kind heap f.id (Scope text f.parent names) (Scope text f.parent (set names position v)) f.is
    (refl, refl, stay_set names position v held) typed
    (record {
      fields = whole;
      named = f.named;
      text_is = refl;
      round = kind.round_kept heap new grows f.parent (typed f.id (Scope text f.parent names) f.is).round;
      are = names_set kind new whole names position ty v are at named is;
    })

pub at_set : (heap : Heap) (id : ℕ) (old new : Object) → object_at heap id ≡ Some old → object_at (with_object heap id new) id ≡ Some new
at_set [] id old new e = absurd cc
at_set (o ∷ os) zero old new e = refl
at_set (o ∷ os) (suc id) old new e = at_set os id old new e

pub first_names : (kind : Kind) (heap : Heap) (fields : List Field) → AreNames kind.asked heap fields (map first_value (map form_of_field fields))
first_names kind heap [] = tt
first_names kind heap (field ∷ fields) = (inr refl, first_names kind heap fields)
