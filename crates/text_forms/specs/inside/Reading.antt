-- What a text begins with, and what it leaves.
use Rattle.std.specs.Prelude.{◌≡◌, ℕ, ◌==◌, Bool, false, List, [], ◌∷◌, ◌++◌, Option, MatchOption, codes, slice_index, if◌then◌else◌}
use Rattle.std.specs.Borrow.{Bor}
use Rattle.std.specs.List.{AllByRecursion}
use Rattle.ps_type_text.specs.ps_base.TyView.{TyView, TyViews}
use Rattle.ps_type_text.specs.ps_base.TyView as ty
use Rattle.ps_type_text.specs.Texts.{type_text, result_text, parameters_text, further_text, Field, field_text, fields_text, further_fields, is_name_byte}
use Rattle.text_forms.specs.Strict.{IsValue, AreValues, IsGiven, IsProper, IsProperField}

-- These bytes are left, and no others.
pub record IsOnly (P : List ℕ → Type 0) (rest : List ℕ) : Type 0 where
  pub left : P rest
  pub only : (other : List ℕ) → P other → other ≡ rest

-- what is left, None exactly where nothing can be
abbrev pub Leaves : (List ℕ → Type 0) → Option (Bor (List ℕ)) → Type 0
Leaves P result = MatchOption result ((rest : List ℕ) → P rest → ⊥) (λ r. IsOnly P r.now)

-- This word, and what stands after it.
pub record BeginsWord (word bytes rest : List ℕ) : Type 0 where
  pub spelled : bytes ≡ word ++ rest

-- Whatever is left by the one is left by the other.
pub record AreSame (P Q : List ℕ → Type 0) : Type 0 where
  pub there : (rest : List ℕ) → P rest → Q rest
  pub back : (rest : List ℕ) → Q rest → P rest

-- The type of a value, and what stands after it.
pub record BeginsType (depth : ℕ) (bytes rest : List ℕ) : Type 0 where
  pub ty : TyView
  pub valued : IsValue depth ty
  pub spelled : bytes ≡ type_text ty ++ rest

-- a vector's type begins here
abbrev pub is_star : List ℕ → Bool
is_star [] = false
is_star (b ∷ bs) = b == 42

-- a basic type
abbrev pub IsBasic : TyView → Type 0
IsBasic ty.Int = Unit {0}
IsBasic ty.Bool = Unit {0}
IsBasic ty.Str = Unit {0}
IsBasic ty.Pntr = Unit {0}
IsBasic _ = ⊥

pub record BeginsBasic (bytes rest : List ℕ) : Type 0 where
  pub ty : TyView
  pub basic : IsBasic ty
  pub spelled : bytes ≡ type_text ty ++ rest

-- what stands after the parameters of a procedure, as far as the bracket that closes
abbrev pub closing : TyView → List ℕ → List ℕ
closing gives rest = result_text gives (type_text gives) ++ (41 ∷ rest)

-- What a procedure gives, the bracket that closes, and what stands after it.
pub record BeginsResult (depth : ℕ) (bytes rest : List ℕ) : Type 0 where
  pub gives : TyView
  pub given : IsGiven gives (IsValue depth gives)
  pub spelled : bytes ≡ closing gives rest

-- Parameters, then the same.
pub record BeginsParameters (depth : ℕ) (bytes rest : List ℕ) : Type 0 where
  pub parameters : TyViews
  pub gives : TyView
  pub valued : AreValues depth parameters
  pub given : IsGiven gives (IsValue depth gives)
  pub spelled : bytes ≡ parameters_text parameters ++ closing gives rest

-- Further parameters, each after a comma, then the same.
pub record BeginsFurther (depth : ℕ) (bytes rest : List ℕ) : Type 0 where
  pub parameters : TyViews
  pub gives : TyView
  pub valued : AreValues depth parameters
  pub given : IsGiven gives (IsValue depth gives)
  pub spelled : bytes ≡ further_text parameters ++ closing gives rest

-- what is left behind the letters, digits and dots
unfoldable pub drop_name : List ℕ → List ℕ
drop_name [] = []
drop_name (b ∷ bs) = if is_name_byte b then drop_name bs else b ∷ bs

-- A name, and what stands after it, which goes on no name.
pub record BeginsName (bytes rest : List ℕ) : Type 0 where
  pub name : List ℕ
  pub proper : IsProper name
  pub ends : is_name_byte (slice_index rest 0) ≡ false
  pub spelled : bytes ≡ name ++ rest

pub record BeginsField (depth : ℕ) (bytes rest : List ℕ) : Type 0 where
  pub field : Field
  pub proper : IsProperField depth field
  pub ends : is_name_byte (slice_index rest 0) ≡ false
  pub spelled : bytes ≡ field_text field ++ rest

-- The fields of a class up to the bracket that closes, which ends the text.
pub record AreFields (depth : ℕ) (bytes : List ℕ) : Type 0 where
  pub fields : List Field
  pub proper : AllByRecursion (IsProperField depth) fields
  pub spelled : bytes ≡ fields_text fields ++ codes ")"

pub record AreFurther (depth : ℕ) (bytes : List ℕ) : Type 0 where
  pub fields : List Field
  pub proper : AllByRecursion (IsProperField depth) fields
  pub spelled : bytes ≡ further_fields fields ++ codes ")"
