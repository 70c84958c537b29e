-- What is known of the scopes round a clause.
use Rattle.std.proofs.Common.{◌≡◌, ℕ, List, [], ◌∷◌, Some, inl, refl, sym, subst}
use Rattle.ps_gen.specs.ps_base.TyView.{TyView}
use Rattle.ps_type_text.specs.Texts.{Field}
use Rattle.ps_typing_laws.specs.ps_typing.WellTyped.{Local, At, IsOfType}
use Rattle.heap_fit.specs.Bodies.{Level}
use Rattle.fit_soundness.proofs.Standings.{Standing, within}

-- A name of this type that a scope round a clause keeps, whether or not it has had its declaration.
pub record HasPlace (known : Standing) (up position : ℕ) (ty : TyView) : Type 0 where
  pub levels : List Level
  pub are : known.levels ≡ Some levels
  pub at : At (λ (level : Level). At (IsOfType ty) level.names position) levels up

-- a new scope with these names
abbrev pub new_level : List Field → Level
new_level names = record { names = names; declared = [] }

-- what is known inside it
abbrev pub opened : Standing → List Field → List Level → Standing
opened known names levels = within known.locals (new_level names ∷ levels)

-- a name of the innermost scope
pub next_place : (locals : List Local) (levels : List Level) (position : ℕ) (ty : TyView) {level : Level} {around : List Level} → levels ≡ level ∷ around →
    At (IsOfType ty) level.names position → HasPlace (within locals levels) 0 position ty
next_place locals levels position ty e at = record {
  levels = levels;
  are = refl;
  at = subst (λ (of : List Level). At (λ (level : Level). At (IsOfType ty) level.names position) of 0) (sym e) (inl (refl, at));
}
