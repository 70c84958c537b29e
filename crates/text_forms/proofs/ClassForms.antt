-- The text of a class tells what its fields hold.
use Rattle.std.proofs.Common.{◌≡◌, ℕ, ◌==◌, Bool, true, false, if◌then◌else◌, List, [], ◌∷◌, ◌++◌, map, refl, sym, ap, ◌∙◌, append_assoc}
use Rattle.std.specs.List.{AllByRecursion}
use Rattle.std.specs.Prelude.{codes}
use Rattle.ps_type_text.specs.ps_base.TyView.{TyView, TyViews, none, more}
use Rattle.ps_type_text.specs.ps_base.TyView as ty
use Rattle.ps_type_text.specs.Texts.{type_text, result_text, parameters_text, further_text, Field, field_text, fields_text, further_fields, class_text}
use Rattle.ps_type_text.specs.Texts.{is_name_byte, IsName, IsNamed}
use Rattle.text_forms.specs.Forms.{forms_of, forms_from, form_here, begins, element_of, is_text}
use Rattle.text_forms.specs.Classes.{form_of_type, form_of_field}
use Rattle.text_forms.specs.Steps.{behind_first, is_field}
use Rattle.text_forms.proofs.Passing.{forms-first, a_field}
use Rattle.text_forms.proofs.Places.{other_number}

pub element-told : (element : TyView) → element_of (type_text (ty.Vector element)) ≡ form_of_type element
unfolding element_of is_text
element-told ty.Int = refl
element-told ty.Bool = refl
element-told ty.Str = refl
element-told ty.Pntr = refl
element-told ty.Void = refl
element-told (ty.Vector element) = refl
element-told (ty.Proc parameters gives) = refl

-- none of the bytes is the mark
unfoldable lacks : ℕ → List ℕ → Bool
lacks mark [] = true
lacks mark (b ∷ bs) = if b == mark then false else lacks mark bs

lacks-append : (mark : ℕ) (xs ys : List ℕ) → lacks mark xs ≡ true → lacks mark ys ≡ true → lacks mark (xs ++ ys) ≡ true
unfolding lacks
lacks-append mark [] ys x y = y
lacks-append mark (b ∷ xs) ys x y =
    elim (b == mark) as (λ t. (if t then false else lacks mark xs) ≡ true → (if t then false else lacks mark (xs ++ ys)) ≡ true)
    [ true ↦ λ h. absurd (cc) | false ↦ λ h. lacks-append mark xs ys h y ] x

behind-lacking : (mark : ℕ) (xs ys : List ℕ) → lacks mark xs ≡ true → behind_first mark (xs ++ ys) ≡ behind_first mark ys
unfolding lacks behind_first
behind-lacking mark [] ys h = refl
behind-lacking mark (b ∷ xs) ys h =
    elim (b == mark) as (λ t. (if t then false else lacks mark xs) ≡ true → (if t then xs ++ ys else behind_first mark (xs ++ ys)) ≡ behind_first mark ys)
    [ true ↦ λ h. absurd (cc) | false ↦ λ h. behind-lacking mark xs ys h ] h

name_lacks : (mark : ℕ) (name : List ℕ) → is_name_byte mark ≡ false → IsName name → lacks mark name ≡ true
unfolding lacks
name_lacks mark [] other n = refl
name_lacks mark (b ∷ name) other n =
    let here : (b == mark) ≡ false = other_number b mark (λ e. let bad : true ≡ false = sym n.0 ∙ ap is_name_byte e ∙ other in cc) in
    ap (λ t. if t then false else lacks mark name) here ∙ name_lacks mark name other n.1

result-lacks : (gives : TyView) → lacks 59 (type_text gives) ≡ true → lacks 59 (result_text gives (type_text gives)) ≡ true
unfolding lacks
result-lacks ty.Void h = refl
result-lacks gives h = h

mutual
  unfolding lacks

  type-lacks : (t : TyView) → lacks 59 (type_text t) ≡ true
  type-lacks ty.Int = refl
  type-lacks ty.Bool = refl
  type-lacks ty.Str = refl
  type-lacks ty.Pntr = refl
  type-lacks ty.Void = refl
  type-lacks (ty.Vector element) = type-lacks element
  type-lacks (ty.Proc parameters gives) =
      lacks-append 59 (parameters_text parameters) (result_text gives (type_text gives) ++ codes ")") (parameters-lack parameters)
      (lacks-append 59 (result_text gives (type_text gives)) (codes ")") (result-lacks gives (type-lacks gives)) refl)

  parameters-lack : (ts : TyViews) → lacks 59 (parameters_text ts) ≡ true
  parameters-lack none = refl
  parameters-lack (more t ts) = lacks-append 59 (type_text t) (further_text ts) (type-lacks t) (further-lack ts)

  further-lack : (ts : TyViews) → lacks 59 (further_text ts) ≡ true
  further-lack none = refl
  further-lack (more t ts) = lacks-append 59 (type_text t) (further_text ts) (type-lacks t) (further-lack ts)

field-lacks : (f : Field) → IsName f.name → lacks 59 (field_text f) ≡ true
unfolding lacks is_name_byte
field-lacks f n = lacks-append 59 (type_text f.ty) (32 ∷ f.name) (type-lacks f.ty) (name_lacks 59 f.name refl n)

begun-field : (t : TyView) (name rest : List ℕ) → is_field ((type_text t ++ (32 ∷ name)) ++ rest) ≡ true
begun-field ty.Int name rest = refl
begun-field ty.Bool name rest = refl
begun-field ty.Str name rest = refl
begun-field ty.Pntr name rest = refl
begun-field ty.Void name rest = refl
begun-field (ty.Vector element) name rest = refl
begun-field (ty.Proc parameters gives) name rest = refl

field-told : (t : TyView) (name rest : List ℕ) → form_here ((type_text t ++ (32 ∷ name)) ++ rest) ≡ form_of_type t
unfolding form_here begins
field-told ty.Int name rest = refl
field-told ty.Bool name rest = refl
field-told ty.Str name rest = refl
field-told ty.Pntr name rest = refl
field-told ty.Void name rest = refl
field-told (ty.Vector element) name rest = refl
field-told (ty.Proc parameters gives) name rest = refl

-- a field, and what stands after the next semicolon
one_field : (f : Field) (rest : List ℕ) → IsName f.name → forms_from true (field_text f ++ rest) ≡ form_of_field f ∷ forms_from true (behind_first 59 rest)
one_field f rest n =
    a_field (field_text f ++ rest) (begun-field f.ty f.name rest)
    ∙ ap (λ g. g ∷ forms_from true (behind_first 59 (field_text f ++ rest))) (field-told f.ty f.name rest)
    ∙ ap (λ l. form_of_field f ∷ forms_from true l) (behind-lacking 59 (field_text f) rest (field-lacks f n))

further-told : (fs : List Field) → AllByRecursion (λ f. IsName f.name) fs
    → forms_from true (behind_first 59 (further_fields fs ++ 41 ∷ [])) ≡ map form_of_field fs
unfolding behind_first forms_from
further-told [] n = refl
further-told (f ∷ fs) n =
    ap (forms_from true) (append_assoc (field_text f) (further_fields fs) (41 ∷ []))
    ∙ one_field f (further_fields fs ++ 41 ∷ []) n.0
    ∙ ap (λ l. form_of_field f ∷ l) (further-told fs n.1)

fields-told : (fs : List Field) → AllByRecursion (λ f. IsName f.name) fs → forms_from true (fields_text fs ++ 41 ∷ []) ≡ map form_of_field fs
unfolding forms_from
fields-told [] n = refl
fields-told (f ∷ fs) n =
    ap (forms_from true) (append_assoc (field_text f) (further_fields fs) (41 ∷ []))
    ∙ one_field f (further_fields fs ++ 41 ∷ []) n.0
    ∙ ap (λ l. form_of_field f ∷ l) (further-told fs n.1)

pub class-told : (name : List ℕ) (fields : List Field) → IsNamed name fields → forms_of (class_text name fields) ≡ map form_of_field fields
unfolding behind_first is_name_byte
class-told name fields n =
    forms-first (class_text name fields)
    ∙ ap (forms_from true) (behind-lacking 40 name (40 ∷ (fields_text fields ++ 41 ∷ [])) (name_lacks 40 name refl n.class))
    ∙ fields-told fields n.each
