-- The texts of the language alone, and the forms of their places.
use Rattle.std.specs.Prelude.{◌≡◌, ℕ, zero, suc, true, List, map, Some, slice_index}
use Rattle.std.specs.Char.{is_ascii_alphabetic}
use Rattle.std.specs.List.{AllByRecursion}
use Rattle.ps_type_text.specs.ps_base.TyView.{TyView, TyViews, none, more}
use Rattle.ps_type_text.specs.ps_base.TyView as ty
use Rattle.ps_type_text.specs.Texts.{type_text, class_text, Field, IsName}
use Rattle.text_forms.specs.declared.forms.Form.{Form}
use Rattle.text_forms.specs.Forms.{form_in}
use Rattle.text_forms.specs.Classes.{form_of_type, form_of_field}

-- how many types of procedures may stand inside one another
abbrev pub deepest : ℕ
deepest = 128

-- what a procedure gives is nothing or a value
abbrev pub IsGiven : TyView → Type 0 → Type 0
IsGiven ty.Void IsValued = Unit {0}
IsGiven gives IsValued = IsValued

-- a type of values, in which types of procedures stand at most so deep inside one another
abbrev mutual
  pub IsValue : ℕ → TyView → Type 0
  IsValue depth ty.Void = ⊥
  IsValue depth (ty.Vector element) = IsValue depth element
  IsValue zero (ty.Proc parameters gives) = ⊥
  IsValue (suc depth) (ty.Proc parameters gives) = AreValues depth parameters × IsGiven gives (IsValue depth gives)
  IsValue depth _ = Unit {0}

  pub AreValues : ℕ → TyViews → Type 0
  AreValues depth none = Unit {0}
  AreValues depth (more first rest) = IsValue depth first × AreValues depth rest

-- A letter, and then letters, digits and dots.
pub record IsProper (name : List ℕ) : Type 0 where
  pub letter : is_ascii_alphabetic (slice_index name 0) ≡ true
  pub bytes : IsName name

pub record IsProperField (depth : ℕ) (field : Field) : Type 0 where
  pub ty : IsValue depth field.ty
  pub name : IsProper field.name

-- The text of a class, or of a scope.
pub record IsClassText (text : List ℕ) : Type 0 where
  pub name : List ℕ
  pub fields : List Field
  pub proper : IsProper name
  pub each : AllByRecursion (IsProperField deepest) fields
  pub spelled : text ≡ class_text name fields

-- The text of a vector's type.
pub record IsVectorText (text : List ℕ) : Type 0 where
  pub element : TyView
  pub valued : IsValue deepest element
  pub spelled : text ≡ type_text (ty.Vector element)

-- The place of this number holds this, by the text of a class or of a scope; or each element does, by that of a vector's type.
pub data IsFormAt (text : List ℕ) (number : ℕ) (form : Form) : Type 0 where
  of_field : (class : IsClassText text) → form_in (map form_of_field class.fields) number ≡ Some form → IsFormAt text number form
  of_element : (vector : IsVectorText text) → number ≡ 0 → form ≡ form_of_type vector.element → IsFormAt text number form
