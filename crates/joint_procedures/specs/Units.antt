-- Units and texts among the constants of a unit.
use Rattle.std.specs.Prelude.{◌≡◌, ℕ, ◌/◌, ◌%◌, ◌^◌, List, Option, Some, None, Result, Ok, Err}
use Rattle.ps_base.specs.CodeUnit.{UnitView, ConstantsView, text, literal}
use Rattle.ps_base.specs.declared.code_unit.Frame.{Frame}
use Rattle.joint_ops.specs.ps_outside.Outside.{Outside}
use Rattle.joint_ops.specs.obj_layout.Stored.{Space}
use Rattle.joint_ops.specs.obj_layout.declared.reference.Reference.{Reference}
use Rattle.joint_ops.specs.swizzle.Heap as area
use Rattle.joint_ops.specs.swizzle.declared.fault.SwizzleFault.{SwizzleFault}
use Rattle.joint_ops.specs.proc_values.Loaded.{IsFitUnit, constant_numbered}
use Rattle.joint_ops.specs.ps_heap.Values.{Text}
use Rattle.joint_ops.specs.World.{DenotesIn, IsUnitIn}
use Rattle.joint_ops.specs.Code.{AnswersConstant}

-- The numbers of a frame are those that a word spells, of 16 bits for each.
pub record IsFrameIn (word : ℕ) (frame : Frame) : Type 0 where
  pub nums : frame.nums ≡ word % 2 ^ 16
  pub refs : frame.refs ≡ word / 2 ^ 16 % 2 ^ 16
  pub num_params : frame.num_params ≡ word / 2 ^ 32 % 2 ^ 16
  pub ref_params : frame.ref_params ≡ word / 2 ^ 48

module _ (old new : area.Heap) (before after : Outside Space) where
  -- The constant of this number is a unit, and this is its code object; or it is a text. Else it fails as that of a constant does.
  abbrev pub AnswersLiteral : ℕ → ConstantsView → ℕ → Result (Option ℕ) SwizzleFault → Type 0
  AnswersLiteral code row index (Ok (Some at)) =
      (u : UnitView) × (constant_numbered row index ≡ Some (literal u)) × IsUnitIn new after at u × IsFitUnit u
  AnswersLiteral code row index (Ok None) = (bytes : List ℕ) × (constant_numbered row index ≡ Some (text bytes))
  AnswersLiteral code row index (Err fault) = AnswersConstant old new before after code row index (Err fault)

  -- The constant of this number is a text, and this object denotes it; or it is a unit. Else it fails as that of a constant does.
  abbrev pub AnswersText : ℕ → ConstantsView → ℕ → Result (Option ℕ) SwizzleFault → Type 0
  AnswersText code row index (Ok (Some at)) =
      (bytes : List ℕ) × (constant_numbered row index ≡ Some (text bytes)) × ((names : List Reference) → DenotesIn new after names (Some at) (Text bytes))
  AnswersText code row index (Ok None) = (u : UnitView) × (constant_numbered row index ≡ Some (literal u))
  AnswersText code row index (Err fault) = AnswersConstant old new before after code row index (Err fault)
