-- A unit of code without where its parts lie in memory: two units are the same where these are.
use Rattle.std.specs.Prelude.{ℕ, List, [], ◌∷◌}
use Rattle.ps_base.specs.List.{items_of}
use Rattle.ps_base.specs.declared.code_unit.Frame.{Frame}
use Rattle.ps_base.specs.declared.code_unit.CodeUnit.{CodeUnit}
use Rattle.ps_base.specs.declared.code_unit.Constant.{Constant, Text, Unit', Row_of-Constant, end_of-Constant, more_of-Constant}

mutual
  pub data UnitView : Type 0 where
    unit : (code : List ℕ) → (constants : ConstantsView) → (frame : Frame) → UnitView

  pub data ConstantView : Type 0 where
    text : (bytes : List ℕ) → ConstantView
    literal : (code : UnitView) → ConstantView

  pub data ConstantsView : Type 0 where
    no_constants : ConstantsView
    constant_then : (first : ConstantView) → (rest : ConstantsView) → ConstantsView

unfoldable mutual
  pub constant_view : Constant → ConstantView
  constant_view (Text bytes) = text bytes
  constant_view (Unit' box code shape row frame) = literal (unit code (row_view row) frame)

  pub row_view : {n : _} → Row_of-Constant n → ConstantsView
  row_view end_of-Constant = no_constants
  row_view (more_of-Constant first rest) = constant_then (constant_view first) (row_view rest)

unfoldable pub constants_view : List Constant → ConstantsView
constants_view [] = no_constants
constants_view (first ∷ rest) = constant_then (constant_view first) (constants_view rest)

abbrev pub unit_view : CodeUnit → UnitView
unit_view code_unit = unit code_unit.code (constants_view (items_of code_unit.constants)) code_unit.frame
