-- What the laws on the texts of types and classes say, as the proofs take it.
use Rattle.std.proofs.Common.{◌≡◌, ℕ, List}
use Rattle.ps_meaning.specs.ps_base.TyView.{TyView}
use Rattle.ps_type_text.specs.Texts.{Field, type_text, class_text, IsNamed}

pub record Told : Type 0 where
  pub types : (a b : TyView) → type_text a ≡ type_text b → a ≡ b
  pub classes : (name other : List ℕ) (fields others : List Field) → IsNamed name fields → IsNamed other others →
      class_text name fields ≡ class_text other others → (name ≡ other) × (fields ≡ others)
