-- The type of the procedures of a signature.
use Rattle.ps_base.specs.List.{items_of}
use Rattle.ps_base.specs.TyView.{TyView, ty_view, ty_views}
use Rattle.ps_base.specs.TyView as ty
use Rattle.ps_base.specs.declared.ty.Signature.{Signature}

abbrev pub procedure_view : Signature → TyView
procedure_view signature = ty.Proc (ty_views (items_of signature.parameters)) (ty_view signature.gives)
