-- What the view of a unit shows of the constants in it.
use Rattle.std.proofs.Common.{◌≡◌, refl, ap, ◌∙◌}
use Rattle.std.specs.declared.boxed.Box.{Box}
use Rattle.std.specs.declared.alloc.Global.{Global}
use Rattle.ps_base.specs.CodeUnit.{literal, unit, constant_then, constant_view, row_view, constants_view, unit_view}
use Rattle.ps_base.specs.declared.code_unit.CodeUnit.{CodeUnit}
use Rattle.ps_base.specs.declared.code_unit.Constant.{Unit, Row_of-Constant, end_of-Constant, more_of-Constant, items-the_row-Constant, items_hidden-the_row-Constant-0}
use Rattle.ps_base.specs.declared.code_unit.Constant.TheBlock.{hidden-the_row-Constant-0}

row_view-items : {n : _} (row : Row_of-Constant n) → row_view row ≡ constants_view (items-the_row-Constant n row)
unfolding row_view constants_view
row_view-items end_of-Constant = refl
row_view-items (more_of-Constant first rest) = ap (constant_then (constant_view first)) (row_view-items rest)

-- a literal shows the unit in its box
pub constant_view-Unit : (box : Box CodeUnit Global) → constant_view (Unit box) ≡ literal (unit_view box.value)
unfolding constant_view
constant_view-Unit box =
    ap (λ constants. literal (unit box.value.code constants box.value.frame)) (row_view-items (hidden-the_row-Constant-0 box.value.constants.vec) ∙ ap constants_view (items_hidden-the_row-Constant-0 box.value.constants.vec))

pub ruleset unit_views = (constant_view-Unit)
