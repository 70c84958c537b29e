-- A type without the places in memory of the code's: two types are the same where these are.
use Rattle.std.specs.Prelude.{List, [], ◌∷◌}
use Rattle.ps_base.specs.declared.ty.Ty.{Ty, Row_of-Ty, end_of-Ty, more_of-Ty}
use Rattle.ps_base.specs.declared.ty.Ty.TheVariants as code

mutual
  pub data TyView : Type 0 where
    Int : TyView
    Bool : TyView
    Str : TyView
    Pntr : TyView
    Void : TyView
    Vector : (element : TyView) → TyView
    Proc : (parameters : TyViews) (gives : TyView) → TyView

  pub data TyViews : Type 0 where
    none : TyViews
    more : (first : TyView) (rest : TyViews) → TyViews

abbrev mutual
  pub ty_view : Ty → TyView
  ty_view code.Int = Int
  ty_view code.Bool = Bool
  ty_view code.Str = Str
  ty_view code.Pntr = Pntr
  ty_view code.Void = Void
  ty_view (code.Vector' p element) = Vector (ty_view element)
  ty_view (code.Proc' p shape parameters gives) = Proc (ty_views_of parameters) (ty_view gives)

  pub ty_views_of : {m : _} → Row_of-Ty m → TyViews
  ty_views_of end_of-Ty = none
  ty_views_of (more_of-Ty ty rest) = more (ty_view ty) (ty_views_of rest)

-- the types and one more at their end
abbrev pub and_type : TyViews → TyView → TyViews
and_type none last = more last none
and_type (more first rest) last = more first (and_type rest last)

-- the types of a list
abbrev pub ty_views : List Ty → TyViews
ty_views [] = none
ty_views (ty ∷ tys) = more (ty_view ty) (ty_views tys)
