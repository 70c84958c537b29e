-- What becomes of area and vault where procedures are made and taken apart. A procedure has no number in the heap.
use Rattle.std.specs.Prelude.{◌≡◌, ℕ, ◌+◌, ◌*◌, List, Option, Some, Result, Ok, Err}
use Rattle.ps_base.specs.CodeUnit.{UnitView}
use Rattle.joint_ops.specs.ps_outside.Outside.{Outside}
use Rattle.joint_ops.specs.obj_layout.Stored.{Space}
use Rattle.joint_ops.specs.obj_layout.declared.kind.Kind.TheVariants as kind
use Rattle.joint_ops.specs.obj_layout.declared.reference.Reference as reference
use Rattle.joint_ops.specs.swizzle.Heap as area
use Rattle.joint_ops.specs.swizzle.Heap.{IsHeld, header_at, top_of}
use Rattle.joint_ops.specs.swizzle.Joint.{shown_at}
use Rattle.joint_ops.specs.swizzle.Touch.{Denotes}
use Rattle.joint_ops.specs.heap_places.Shapes.{slot_of}
use Rattle.joint_ops.specs.swizzle.declared.fault.SwizzleFault.{SwizzleFault}
use Rattle.joint_ops.specs.proc_values.Loaded.{IsFitUnit}
use Rattle.joint_ops.specs.ps_heap.Values.{Procedure, as_compiled}
use Rattle.joint_ops.specs.ps_heap.Objects.{Heap}
use Rattle.joint_ops.specs.ps_heap.Weights.{closure_weight}
use Rattle.joint_ops.specs.World.{DenotesIn, DenotesScopeIn, IsUnitIn, Stands, BreaksOff}
use Rattle.joint_ops.specs.Made.{IsShort}

-- The object is a closure, and its slot of this number denotes this object, or none.
pub record HasSlot (here : area.Heap) (closure slot : ℕ) (to : Option ℕ) : Type 0 where
  pub held : IsHeld here closure
  pub kind : (header_at here closure).kind ≡ kind.Closure
  pub denotes : Denotes here to (slot_of (shown_at here closure) slot)

module _ (old new : area.Heap) (outside : Outside Space) where
  -- a new procedure
  pub record IsNewProcedure (of : Heap) (names : List reference.Reference) (u : UnitView) (scope : Option ℕ) (at : ℕ) : Type 0 where
    pub held : IsHeld new at
    pub stands : Stands old new outside outside of names
    pub top : 8 * top_of new ≡ 8 * top_of old + closure_weight
    pub denotes : DenotesIn new outside names (Some at) (Procedure (as_compiled u) scope)

  abbrev pub MakesProcedure : Heap → List reference.Reference → UnitView → Option ℕ → Result ℕ SwizzleFault → Type 0
  MakesProcedure of names u scope (Ok at) = IsNewProcedure of names u scope at
  MakesProcedure of names u scope (Err fault) = IsShort old new closure_weight fault

module _ (old new : area.Heap) (before after : Outside Space) where
  -- the code object of this unit
  pub record IsCodeOf (of : Heap) (names : List reference.Reference) (u : UnitView) (at : ℕ) : Type 0 where
    pub is : IsUnitIn new after at u
    pub fit : IsFitUnit u
    pub stands : Stands old new before after of names

  abbrev pub AnswersCode : Heap → List reference.Reference → UnitView → Result ℕ SwizzleFault → Type 0
  AnswersCode of names u (Ok at) = IsCodeOf of names u at
  AnswersCode of names u (Err fault) = BreaksOff old new before after fault

  -- a scope, or none
  abbrev pub AnswersScope : Heap → List reference.Reference → Option ℕ → Result (Option ℕ) SwizzleFault → Type 0
  AnswersScope of names scope (Ok to) = DenotesScopeIn new after names to scope × Stands old new before after of names
  AnswersScope of names scope (Err fault) = BreaksOff old new before after fault
