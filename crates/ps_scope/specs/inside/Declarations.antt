-- A row of the library, as the rules of scope speak of it.
use Rattle.std.specs.Prelude.{List, [], ◌∷◌, codes}
use Rattle.ps_base.specs.TyView.{TyView, TyViews, none, more}
use Rattle.ps_base.specs.TyView as ty
use Rattle.ps_typing.specs.Library.{procedure, error_field}
use Rattle.ps_typing.specs.Names.{Declared, FieldOf}
use Rattle.ps_scope.specs.declared.library.Routine.{Routine}
use Rattle.ps_scope.specs.declared.library.Simple.{Simple}
use Rattle.ps_scope.specs.declared.library.Simple.TheVariants as simple

abbrev pub simple_view : Simple → TyView
simple_view simple.Int = ty.Int
simple_view simple.Bool = ty.Bool
simple_view simple.Str = ty.Str
simple_view simple.Pntr = ty.Pntr
simple_view simple.Void = ty.Void

abbrev pub types_in : List Simple → TyViews
types_in [] = none
types_in (first ∷ rest) = more (simple_view first) (types_in rest)

abbrev pub declared_routine : Routine → Declared
declared_routine routine = procedure routine.name.now routine.code (types_in routine.parameters.now) (simple_view routine.gives)

abbrev pub error_fields : List FieldOf
error_fields = error_field 0 (codes "error.context") ∷ error_field 1 (codes "error.fault") ∷ error_field 2 (codes "error.explain") ∷ []
