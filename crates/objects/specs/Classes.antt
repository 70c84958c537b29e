-- Classes by the constants that name them, and fields of them by their numbers.
use Rattle.std.specs.Prelude.{◌≡◌, ◌≢◌, ◌⊎◌, ℕ, List, Some, Result, Ok, Err}
use Rattle.ps_base.specs.CodeUnit.{ConstantsView, unit, text}
use Rattle.ps_base.specs.declared.code_unit.Frame.{Frame}
use Rattle.joint_ops.specs.ps_outside.Outside.{Outside}
use Rattle.joint_ops.specs.obj_layout.Stored.{Space}
use Rattle.joint_ops.specs.obj_layout.declared.reference.Reference.{Reference}
use Rattle.joint_ops.specs.swizzle.Heap as area
use Rattle.joint_ops.specs.swizzle.declared.fault.SwizzleFault.{SwizzleFault}
use Rattle.joint_ops.specs.proc_values.Loaded.{constant_numbered}
use Rattle.joint_ops.specs.proc_values.Reading.{IsDamaged}
use Rattle.joint_ops.specs.text_forms.declared.forms.Form.{Form}
use Rattle.joint_ops.specs.text_forms.declared.forms.Located.{Located}
use Rattle.joint_ops.specs.text_forms.Forms.{forms_of, located_in}
use Rattle.joint_ops.specs.heap_texts.declared.fault.OpFault.{OpFault}
use Rattle.joint_ops.specs.heap_texts.declared.fault.OpFault.TheVariants as op
use Rattle.joint_ops.specs.ps_heap.Values.{Value, Text}
use Rattle.joint_ops.specs.ps_heap.Texts.{Attempt}
use Rattle.joint_ops.specs.ps_heap.Objects.{Heap, Object}
use Rattle.joint_ops.specs.Made.{Makes}
use Rattle.joint_ops.specs.World.{DenotesIn, IsUnitIn, Stands, BreaksOff}

-- The unit of a code object has the text of a class as its constant of this number, wherever that text lies.
pub record NamesClass (here : area.Heap) (outside : Outside Space) (code constant : ℕ) (class : List ℕ) : Type 0 where
  pub bytes : List ℕ
  pub row : ConstantsView
  pub frame : Frame
  pub unit_is : IsUnitIn here outside code (unit bytes row frame)
  pub class_is : constant_numbered row constant ≡ Some (text class)

-- The code object is of a unit that has no text as its constant of this number.
pub record LacksClass (here : area.Heap) (outside : Outside Space) (code constant : ℕ) : Type 0 where
  pub bytes : List ℕ
  pub row : ConstantsView
  pub frame : Frame
  pub unit_is : IsUnitIn here outside code (unit bytes row frame)
  pub none : (class : List ℕ) → constant_numbered row constant ≢ Some (text class)

-- The code object is of a unit that has no class with a field of this number as its constant.
pub record LacksField (here : area.Heap) (outside : Outside Space) (code constant field : ℕ) : Type 0 where
  pub bytes : List ℕ
  pub row : ConstantsView
  pub frame : Frame
  pub unit_is : IsUnitIn here outside code (unit bytes row frame)
  pub none : (class : List ℕ) (located : Located) → constant_numbered row constant ≡ Some (text class)
      → located_in (forms_of class) field ≢ Some located

module _ (old new : area.Heap) (before after : Outside Space) where
  -- The text that is the constant of this number of a unit; or the code object is damaged, where the unit has none; or it broke off.
  abbrev pub AnswersClass : ℕ → ConstantsView → ℕ → Result ℕ SwizzleFault → Type 0
  AnswersClass code row constant (Ok at) =
      (class : List ℕ) × (constant_numbered row constant ≡ Some (text class)) × ((names : List Reference) → DenotesIn new after names (Some at) (Text class))
  AnswersClass code row constant (Err fault) =
      (((class : List ℕ) → constant_numbered row constant ≢ Some (text class)) × IsDamaged old code fault) ⊎ BreaksOff old new before after fault

  -- The form of the field of this number of the class that is the constant of this number of a unit; or the code object is damaged, where the unit has no
  -- such class or the class no such field; or it broke off.
  abbrev pub AnswersForm : ℕ → ConstantsView → ℕ → ℕ → Result Form SwizzleFault → Type 0
  AnswersForm code row constant field (Ok form) =
      (class : List ℕ) × (located : Located) × (constant_numbered row constant ≡ Some (text class)) × (located_in (forms_of class) field ≡ Some located)
      × (form ≡ located.place.form)
  AnswersForm code row constant field (Err fault) =
      (((class : List ℕ) (located : Located) → constant_numbered row constant ≡ Some (text class) → located_in (forms_of class) field ≢ Some located)
      × IsDamaged old code fault)
      ⊎ BreaksOff old new before after fault

  -- The code object is damaged, or that wasn't found out, since the operation broke off before.
  abbrev pub BreaksByCode : {T : Type 0} → ℕ → Result T OpFault → Type 0
  BreaksByCode code (Ok given) = ⊥
  BreaksByCode code (Err (op.Trap t)) = ⊥
  BreaksByCode code (Err (op.Swizzle fault)) = IsDamaged old code fault ⊎ BreaksOff old new before after fault

  -- An object was made after the text of its class was read, which may have been fetched; or its trap came, or there was no room for it.
  pub record IsLater (of : Heap) (names : List Reference) (denoting : ℕ → Value) (attempt : Attempt Object) (result : Result ℕ OpFault) : Type 0 where
    pub mid : area.Heap
    pub read : Stands old mid before after of names
    pub made : Makes mid new after of names denoting attempt result

  -- Or it broke off as reading does.
  abbrev pub MakesLater : Heap → List Reference → (ℕ → Value) → Attempt Object → Result ℕ OpFault → Type 0
  MakesLater of names denoting attempt (Ok at) = IsLater of names denoting attempt (Ok at)
  MakesLater of names denoting attempt (Err (op.Trap t)) = IsLater of names denoting attempt (Err (op.Trap t))
  MakesLater of names denoting attempt (Err (op.Swizzle fault)) =
      IsLater of names denoting attempt (Err (op.Swizzle fault)) ⊎ BreaksOff old new before after fault
