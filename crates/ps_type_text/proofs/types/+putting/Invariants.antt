use Rattle.std.proofs.Common.{◌≡◌, ◌≤◌, ◌++◌, take}
use Rattle.ps_base.proofs.ty.Ty.TheLaws.{the_size}
use Rattle.ps_base.specs.TyView.{ty_view, ty_views}
use Rattle.ps_type_text.specs.Texts.{type_text, parameters_text}
use Rattle.ps_type_text.proofs.types.+putting.Given as goal

-- what was put and the text of what is left are the text of the type
abbrev pub invariant-put_type-loop-rest : goal.invariant-put_type-loop-rest
invariant-put_type-loop-rest l =
    (the_size l.rest ≤ the_size l.ty)
    × (l.into.items ++ type_text (ty_view l.rest) ≡ l.initial.into.items ++ type_text (ty_view l.ty))

-- the texts of the parameters before the place were put
abbrev pub invariant-put_parameters-loop-place : goal.invariant-put_parameters-loop-place
invariant-put_parameters-loop-place l = l.into.items ≡ l.initial.into.items ++ parameters_text (ty_views (take l.place l.types))
