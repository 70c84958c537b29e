-- Types of which there are values in a place: void isn't one. It only stands in such a type as what a procedure gives.
use Rattle.ps_meaning.specs.ps_base.TyView.{TyView, TyViews}
use Rattle.ps_meaning.specs.ps_base.TyView as types

abbrev mutual
  pub IsValued : TyView → Type 0
  IsValued types.Void = ⊥
  IsValued (types.Vector element) = IsValued element
  IsValued (types.Proc parameters gives) = AllValued parameters × IsGiven gives
  IsValued _ = Unit {0}

  -- what a clause or a procedure gives: a value of such a type, or nothing
  pub IsGiven : TyView → Type 0
  IsGiven (types.Vector element) = IsValued element
  IsGiven (types.Proc parameters gives) = AllValued parameters × IsGiven gives
  IsGiven _ = Unit {0}

  pub AllValued : TyViews → Type 0
  AllValued types.none = Unit {0}
  AllValued (types.more first rest) = IsValued first × AllValued rest
