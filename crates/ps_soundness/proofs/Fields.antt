-- Fields and elements: the texts of objects tell the types of their places, and a value of a type is kept as it is.
use Rattle.std.proofs.Common.{◌≡◌, ℕ, zero, suc, ◌<◌, true, false, List, [], ◌∷◌, map, length, get_or, set, replicate, Option, Some, inl, inr, refl, sym, ap, ◌∙◌, subst, arith}
use Rattle.std.specs.List.{AllByRecursion}
use Rattle.ps_meaning.specs.ps_base.TyView.{TyView}
use Rattle.ps_meaning.specs.ps_base.TyView as types
use Rattle.ps_type_text.specs.Texts.{Field, type_text, class_text, IsNamed}
use Rattle.ps_meaning.specs.text_forms.declared.forms.Form.{Form}
use Rattle.ps_meaning.specs.text_forms.Classes.{form_of_type, form_of_field}
use Rattle.ps_meaning.specs.text_forms.Forms.{forms_of, form_in, element_of}
use Rattle.ps_heap.proofs.of_text_forms.ClassForms.{class-told, element-told}
use Rattle.ps_meaning.specs.ps_typing.WellTyped.{At, IsOfType}
use Rattle.ps_heap.specs.Values.{Value, Num, Flag}
use Rattle.ps_heap.specs.Objects.{Heap, value_at}
use Rattle.ps_meaning.specs.Operations.{kept_as, kept_all, kept_elements}
use Rattle.ps_soundness.specs.Running.{HasField}
use Rattle.ps_soundness.specs.Over.{IsOf, AreOf, IsTypedStructure}
use Rattle.ps_soundness.proofs.Notion.{Kind}
use Rattle.ps_soundness.proofs.Telling.{Told}

-- a value of a type is kept as it is
pub kept_by_type : (kind : Kind) (heap : Heap) (ty : TyView) (v : Value) → IsOf kind.asked heap ty v → kept_as (Some (form_of_type ty)) v ≡ v
kept_by_type kind heap types.Int (Num z) h = refl
kept_by_type kind heap types.Int v h = absurd h
kept_by_type kind heap types.Bool (Flag true) h = refl
kept_by_type kind heap types.Bool (Flag false) h = refl
kept_by_type kind heap types.Bool v h = absurd h
kept_by_type kind heap types.Str v h = refl
kept_by_type kind heap types.Pntr v h = refl
kept_by_type kind heap types.Void v h = refl
kept_by_type kind heap (types.Vector element) v h = refl
kept_by_type kind heap (types.Proc parameters gives) v h = refl

kept_each : (kind : Kind) (heap : Heap) (fields : List Field) (values : List Value) → AreOf kind.asked heap fields values → kept_all (map form_of_field fields) values ≡ values
unfolding kept_all
kept_each kind heap [] values h = refl
kept_each kind heap (field ∷ fields) [] h = refl
kept_each kind heap (field ∷ fields) (v ∷ vs) h =
    ap (λ (w : Value). w ∷ kept_all (map form_of_field fields) vs) (kept_by_type kind heap field.ty v h.0)
    ∙ ap (λ (ws : List Value). v ∷ ws) (kept_each kind heap fields vs h.1)

-- the values of a structure are kept as they are
pub kept_in_class : (kind : Kind) (heap : Heap) (name : List ℕ) (fields : List Field) (values : List Value) → IsNamed name fields → AreOf kind.asked heap fields values →
    kept_all (forms_of (class_text name fields)) values ≡ values
kept_in_class kind heap name fields values named h =
    ap (λ (forms : List Form). kept_all forms values) (class-told name fields named) ∙ kept_each kind heap fields values h

-- and so are those of a vector
pub kept_in_vector : (kind : Kind) (heap : Heap) (element : TyView) (v : Value) → IsOf kind.asked heap element v →
    kept_as (Some (element_of (type_text (types.Vector element)))) v ≡ v
kept_in_vector kind heap element v h = ap (λ (f : Form). kept_as (Some f) v) (element-told element) ∙ kept_by_type kind heap element v h

pub all_kept_in_vector : (kind : Kind) (heap : Heap) (element : TyView) (values : List Value) → AllByRecursion (IsOf kind.asked heap element) values →
    kept_elements (type_text (types.Vector element)) values ≡ values
all_kept_in_vector kind heap element [] h = refl
all_kept_in_vector kind heap element (v ∷ vs) h =
    ap (λ (w : Value). w ∷ kept_elements (type_text (types.Vector element)) vs) (kept_in_vector kind heap element v h.0)
    ∙ ap (λ (ws : List Value). v ∷ ws) (all_kept_in_vector kind heap element vs h.1)

pub form_at : (fields : List Field) (position : ℕ) (ty : TyView) → At (IsOfType ty) fields position →
    form_in (map form_of_field fields) position ≡ Some (form_of_type ty)
unfolding form_in
form_at [] position ty h = absurd h
form_at (field ∷ fields) zero ty (inl h) = ap (λ (t : TyView). Some (form_of_type t)) h.1
form_at (field ∷ fields) zero ty (inr h) = absurd (let e = h.1 in omega arith)
form_at (field ∷ fields) (suc position) ty (inl h) = absurd (let e = h.0 in omega arith)
form_at (field ∷ fields) (suc position) ty (inr (before, e, h)) =
    form_at fields position ty (subst (At (IsOfType ty) fields) (let same : before ≡ position = omega arith in same) h)

field_value : (kind : Kind) (heap : Heap) (fields : List Field) (values : List Value) (position : ℕ) (ty : TyView) → At (IsOfType ty) fields position →
    AreOf kind.asked heap fields values → IsOf kind.asked heap ty (value_at values position)
field_value kind heap [] values position ty h are = absurd h
field_value kind heap (field ∷ fields) [] position ty h are = absurd are
field_value kind heap (field ∷ fields) (v ∷ vs) zero ty (inl h) are = subst (λ (t : TyView). IsOf kind.asked heap t v) h.1 are.0
field_value kind heap (field ∷ fields) (v ∷ vs) zero ty (inr h) are = absurd (let e = h.1 in omega arith)
field_value kind heap (field ∷ fields) (v ∷ vs) (suc position) ty (inl h) are = absurd (let e = h.0 in omega arith)
field_value kind heap (field ∷ fields) (v ∷ vs) (suc position) ty (inr (before, e, h)) are =
    field_value kind heap fields vs position ty (subst (At (IsOfType ty) fields) (let same : before ≡ position = omega arith in same) h) are.1

fields_set : (kind : Kind) (heap : Heap) (fields : List Field) (values : List Value) (position : ℕ) (ty : TyView) (v : Value) → At (IsOfType ty) fields position →
    IsOf kind.asked heap ty v → AreOf kind.asked heap fields values → AreOf kind.asked heap fields (set values position v)
fields_set kind heap [] values position ty v h is are = absurd h
fields_set kind heap (field ∷ fields) [] position ty v h is are = absurd are
fields_set kind heap (field ∷ fields) (old ∷ vs) zero ty v (inl h) is are = (subst (λ (t : TyView). IsOf kind.asked heap t v) (sym h.1) is, are.1)
fields_set kind heap (field ∷ fields) (old ∷ vs) zero ty v (inr h) is are = absurd (let e = h.1 in omega arith)
fields_set kind heap (field ∷ fields) (old ∷ vs) (suc position) ty v (inl h) is are = absurd (let e = h.0 in omega arith)
fields_set kind heap (field ∷ fields) (old ∷ vs) (suc position) ty v (inr (before, e, h)) is are =
    (are.0, fields_set kind heap fields vs position ty v (subst (At (IsOfType ty) fields) (let same : before ≡ position = omega arith in same) h) is are.1)

-- a field of a typed structure
at_its_field : (kind : Kind) (told : Told) (heap : Heap) (class : List ℕ) (position : ℕ) (ty : TyView) (values : List Value) (h : HasField class position ty)
    (s : IsTypedStructure kind.asked heap class values) → At (IsOfType ty) s.fields position
at_its_field kind told heap class position ty values h s =
    let same = told.classes h.class.name s.name h.class.fields s.fields h.class.named s.named (sym h.class.text_is ∙ s.class_is) in
    subst (λ (fields : List Field). At (IsOfType ty) fields position) same.1 h.at

pub typed_field : (kind : Kind) (told : Told) (heap : Heap) (class : List ℕ) (position : ℕ) (ty : TyView) (values : List Value) → HasField class position ty →
    IsTypedStructure kind.asked heap class values → IsOf kind.asked heap ty (value_at values position)
typed_field kind told heap class position ty values h s =
    field_value kind heap s.fields values position ty (at_its_field kind told heap class position ty values h s) s.are

pub typed_with_field : (kind : Kind) (told : Told) (heap : Heap) (class : List ℕ) (position : ℕ) (ty : TyView) (values : List Value) (v : Value) →
    HasField class position ty → IsOf kind.asked heap ty v → IsTypedStructure kind.asked heap class values → IsTypedStructure kind.asked heap class (set values position v)
typed_with_field kind told heap class position ty values v h is s = record {
  name = s.name;
  fields = s.fields;
  named = s.named;
  class_is = s.class_is;
  nonvoid = s.nonvoid;
  are = fields_set kind heap s.fields values position ty v (at_its_field kind told heap class position ty values h s) is s.are;
}

-- the form of a field of a class
pub form_in_field : (class : List ℕ) (position : ℕ) (ty : TyView) → HasField class position ty →
    form_in (forms_of class) position ≡ Some (form_of_type ty)
form_in_field class position ty h =
    ap (λ (text : List ℕ). form_in (forms_of text) position) h.class.text_is
    ∙ ap (λ (forms : List Form). form_in forms position) (class-told h.class.name h.class.fields h.class.named) ∙ form_at h.class.fields position ty
    h.at

pub kept_in_field : (kind : Kind) (heap : Heap) (class : List ℕ) (position : ℕ) (ty : TyView) (v : Value) → HasField class position ty → IsOf kind.asked heap ty v →
    kept_as (form_in (forms_of class) position) v ≡ v
kept_in_field kind heap class position ty v h is =
    ap (λ (text : List ℕ). kept_as (form_in (forms_of text) position) v) h.class.text_is
    ∙ ap (λ (forms : List Form). kept_as (form_in forms position) v) (class-told h.class.name h.class.fields h.class.named)
    ∙ ap (λ (f : Option Form). kept_as f v) (form_at h.class.fields position ty h.at) ∙ kept_by_type kind heap ty v is

-- elements
pub all_at : {A : Type 0} (P : A → Type 0) (values : List A) (n : ℕ) (other : A) → AllByRecursion P values → n < length values →
    P (get_or values n other)
all_at P [] n other h below = absurd (omega arith)
all_at P (v ∷ vs) zero other h below = h.0
all_at P (v ∷ vs) (suc n) other h below = all_at P vs n other h.1 (omega arith)

pub all_set : {A : Type 0} (P : A → Type 0) (values : List A) (n : ℕ) (v : A) → AllByRecursion P values → P v → AllByRecursion P (set values n v)
all_set P [] n v h is = tt
all_set P (old ∷ vs) zero v h is = (is, h.1)
all_set P (old ∷ vs) (suc n) v h is = (h.0, all_set P vs n v h.1 is)

pub all_same : {A : Type 0} (P : A → Type 0) (n : ℕ) (v : A) → P v → AllByRecursion P (replicate n v)
all_same P zero v is = tt
all_same P (suc n) v is = (is, all_same P n v is)
