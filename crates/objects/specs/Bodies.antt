-- Bodies of procedures: of a unit, in a scope; and what is known of them by the area alone.
use Rattle.std.specs.Prelude.{◌≡◌, ◌⊎◌, ℕ, List, [], ◌∷◌, Option, Some, Result, Ok, Err}
use Rattle.ps_base.specs.CodeUnit.{UnitView, unit}
use Rattle.ps_base.specs.declared.code_unit.Frame.{Frame}
use Rattle.joint_ops.specs.ps_outside.Outside.{Outside}
use Rattle.joint_ops.specs.obj_layout.Stored.{Space}
use Rattle.joint_ops.specs.obj_layout.declared.reference.Reference.{Reference}
use Rattle.joint_ops.specs.swizzle.Heap as area
use Rattle.joint_ops.specs.swizzle.Heap.{num_at}
use Rattle.joint_ops.specs.swizzle.declared.fault.SwizzleFault.{SwizzleFault}
use Rattle.joint_ops.specs.proc_values.Loaded.{IsFitUnit}
use Rattle.joint_ops.specs.proc_values.Reading.{IsPlaceOf}
use Rattle.joint_ops.specs.ps_heap.Objects.{Heap}
use Rattle.joint_ops.specs.World.{DenotesScopeIn, IsUnitIn, Stands, BreaksOff}
use Rattle.joint_procedures.specs.Procedures.{HasSlot}
use Rattle.joint_procedures.specs.Units.{IsFrameIn}
use Rattle.objects.specs.declared.body.Body.{Body}
use Rattle.objects.specs.declared.known_procedures.KnownProcedure.{KnownProcedure}

-- the frame of a unit
abbrev pub frame_in : UnitView → Frame
frame_in (unit bytes row frame) = frame

-- The body is that of this unit, in this scope.
pub record IsBodyIn (here : area.Heap) (outside : Outside Space) (names : List Reference) (u : UnitView) (within : Option ℕ) (body : Body) : Type 0 where
  pub unit_is : IsUnitIn here outside body.code u
  pub fit : IsFitUnit u
  pub frame_is : body.frame ≡ frame_in u
  pub scope_is : DenotesScopeIn here outside names body.scope within

module _ (old new : area.Heap) (before after : Outside Space) where
  -- the body of a procedure
  abbrev pub AnswersBody : Heap → List Reference → UnitView → Option ℕ → Result Body SwizzleFault → Type 0
  AnswersBody of names u within (Ok body) = IsBodyIn new after names u within body × Stands old new before after of names
  AnswersBody of names u within (Err fault) = BreaksOff old new before after fault

-- The code object of a body lies in the area, with its bytes in their place, and one of its words spells the frame.
pub record HasCode (here : area.Heap) (body : Body) : Type 0 where
  pub place : IsPlaceOf here body.code body.place
  pub frame : IsFrameIn (num_at here body.code 1) body.frame

-- This body is that of a closure of the area, whose slots denote the code object and the scope.
pub record HasBody (here : area.Heap) (procedure : ℕ) (body : Body) : Type 0 where
  pub code_is : HasSlot here procedure 0 (Some body.code)
  pub scope_is : HasSlot here procedure 1 body.scope
  pub code : HasCode here body

-- each entry says what is so, or nothing, where its procedure is 0
abbrev pub AreSo : area.Heap → List KnownProcedure → Type 0
AreSo here [] = Unit {0}
AreSo here (known ∷ rest) = ((known.procedure ≡ 0) ⊎ HasBody here known.procedure known.body) × AreSo here rest
