-- The types of a list inside a type.
use Rattle.std.proofs.Common.{◌≡◌, List, [], ◌∷◌, ◌++◌, refl, ap, ◌∙◌}
use Rattle.ps_base.specs.List.{items_of}
use Rattle.std.specs.declared.alloc.Global.{Global}
use Rattle.std.specs.declared.rc.Rc.{Rc}
use Rattle.ps_base.specs.declared.ty.Ty.{Ty}
use Rattle.ps_base.specs.declared.ty.Signature.{Signature}
use Rattle.ps_base.specs.declared.ty.Ty.TheBlock.{Row_of-Ty, end_of-Ty, more_of-Ty, items-the_row-Ty, items_hidden-the_row-Ty-0}
use Rattle.ps_base.specs.declared.ty.Ty.TheVariants as code
use Rattle.ps_base.specs.TyView.{TyView, TyViews, more, and_type, ty_view, ty_views_of, ty_views}
use Rattle.ps_base.specs.TyView as view
use mathlib.Core.Former.{Count}

rows : (n : _) (row : Row_of-Ty n) → ty_views_of row ≡ ty_views (items-the_row-Ty n row)
rows n end_of-Ty = refl
rows n (more_of-Ty ty rest) = ap (λ (ts : TyViews). more (ty_view ty) ts) (rows _ rest)

abbrev row_of : Ty → (n : Count) × Row_of-Ty n
row_of (code.Proc' _ _ row _) = (_, row)
row_of _ = (_, end_of-Ty)

pub ty_view-Proc : (signature : Rc Signature Global) → ty_view (code.Proc signature) ≡ view.Proc (ty_views (items_of signature.value.parameters)) (ty_view signature.value.gives)
ty_view-Proc signature =
    let row = row_of (code.Proc signature) in
    ap (λ (ts : TyViews). view.Proc ts (ty_view signature.value.gives)) (rows row.0 row.1 ∙ ap ty_views (items_hidden-the_row-Ty-0 signature.value.parameters.vec))

-- one type more
pub ty_views-append : (types : List Ty) (last : Ty) → ty_views (types ++ last ∷ []) ≡ and_type (ty_views types) (ty_view last)
ty_views-append [] last = refl
ty_views-append (first ∷ types) last = ap (λ (ts : TyViews). more (ty_view first) ts) (ty_views-append types last)
