use Rattle.std.proofs.Common.{◌≡◌, ◌≤◌, ◌↔◌, take}
use Rattle.ps_base.proofs.ty.Ty.TheLaws.{the_size}
use Rattle.ps_base.specs.TyView.{ty_view, ty_views}
use Rattle.ps_type_text.proofs.equality.+same.Given as goal

-- the types are the same exactly where what is left of them is
abbrev pub invariant-same_type-loop-left : goal.invariant-same_type-loop-left
invariant-same_type-loop-left l = (the_size l.left ≤ the_size l.a) × ((ty_view l.left ≡ ty_view l.right) ↔ (ty_view l.a ≡ ty_view l.b))

-- the types before the place are the same
abbrev pub invariant-same_types-loop-i : goal.invariant-same_types-loop-i
invariant-same_types-loop-i l = ty_views (take l.i l.a) ≡ ty_views (take l.i l.b)
