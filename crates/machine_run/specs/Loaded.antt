-- A machine that was loaded with a unit, or why none was.
use Rattle.std.specs.Prelude.{◌≡◌, ℕ, ◌+◌, ◌*◌, ◌<◌, ◌≤◌, false, List, [], ◌∷◌, ◌++◌, None, Result, Ok, Err, vec_capacity}
use Rattle.ps_base.specs.CodeUnit.{UnitView, unit, no_constants}
use Rattle.ps_base.specs.declared.code_unit.Frame.{Frame}
use Rattle.vault_output.specs.obj_layout.Stored.{Space}
use Rattle.vault_output.specs.obj_layout.declared.reference.Reference.{Reference}
use Rattle.machine_core.specs.ps_heap.ps_base.Limits.{most_databases}
use Rattle.machine_core.specs.ps_outside.Outside.{Outside}
use Rattle.machine_core.specs.ps_meaning.Meaning.{Store}
use Rattle.machine_core.specs.ps_stepping.Config.{frame_words, frame_in, start}
use Rattle.machine_core.specs.swizzle.Heap.{top_of, fresh_heap}
use Rattle.machine_core.specs.swizzle.Objects.{Object, size_of, size_of_all}
use Rattle.machine_core.specs.swizzle.declared.fault.SwizzleFault.{SwizzleFault}
use Rattle.machine_core.specs.swizzle.declared.fault.SwizzleFault.TheVariants.{AreaFull}
use Rattle.machine_core.specs.heap_texts.Texts.{wanted_of}
use Rattle.machine_core.specs.proc_values.Units.{HasConstants, unit_objects}
use Rattle.machine_core.specs.joint_ops.Code.{unit_weight}
use Rattle.machine_core.specs.joint_held.Held.{HoldsRun}
use Rattle.machine_core.specs.declared.machine.Machine.{Machine}
use Rattle.machine_core.specs.Holding.{most_values, Holds, IsSound}
use Rattle.machine_core.specs.Naming.{NamesObjects}
use Rattle.machine_core.specs.Waiting.{HasRoom}

-- there is memory for the bodies that wait, for the words of those and of the body that runs, for the values of an object, and for all databases that may be
-- open for writing
pub record IsRoomy (m : Machine) : Type 0 where
  pub room : HasRoom m.callers m.nums m.refs
  pub values_room : most_values ≤ vec_capacity m.values
  pub databases_room : most_databases ≤ vec_capacity m.databases.writing

-- so there is in a new machine, whose area has this size
pub record IsNew (size : ℕ) (m : Machine) : Type 0 where
  pub roomy : IsRoomy m
  pub size_is : m.objects.size ≡ size

-- the frame has no more locals on a stack than words
pub record IsFrame (frame : Frame) : Type 0 where
  pub nums_fit : frame.nums ≤ frame_words
  pub refs_fit : frame.refs ≤ frame_words

-- A store with so many turns and this input, which holds a run that begins: an empty area beside the vault holds it.
pub record IsGiven (size : ℕ) (outside : Outside Space) (turns : ℕ) (input : List ℕ) (store : Store) : Type 0 where
  pub names : List Reference
  pub run : HoldsRun (fresh_heap size) outside names [] None store.held
  pub unasked : store.held.asked ≡ false
  pub turns_are : store.turns ≡ turns
  pub input_is : store.input ≡ input

-- The machine is at the start of the unit, from whatever the vault stands for, where each unit has a constant.
pub record IsLoaded (outside : Outside Space) (u : UnitView) (turns : ℕ) (input : List ℕ) (old new : Machine) : Type 0 where
  pub frame : IsFrame (frame_in u)
  pub sound : IsSound new
  pub named : NamesObjects new
  pub roomy : IsRoomy new
  pub size : new.objects.size ≡ old.objects.size
  pub top : 8 * top_of new.objects ≡ 8 + unit_weight u
  pub starts : HasConstants u → (store : Store) → IsGiven old.objects.size outside turns input store → Holds outside new (start u store)

-- of objects that lie from word 1 on the first end at this word, and the next one has so many words
pub record EndsBefore (objects : List Object) (top wanted : ℕ) : Type 0 where
  pub made : List Object
  pub next : Object
  pub rest : List Object
  pub objects_are : objects ≡ made ++ next ∷ rest
  pub top_is : top ≡ 1 + size_of_all made
  pub wanted_is : wanted ≡ wanted_of (size_of next)

-- what a unit takes in an area that is empty: its objects, and word 0
abbrev pub loaded_weight : UnitView → ℕ
loaded_weight u = 8 + unit_weight u

-- The area has no room for an object of the unit: its next word, the words of that object, and its size.
pub record HasNoRoom (u : UnitView) (old new : Machine) (fault : SwizzleFault) : Type 0 where
  pub top : ℕ
  pub wanted : ℕ
  pub fault_is : fault ≡ AreaFull top wanted old.objects.size
  pub frame : IsFrame (frame_in u)
  pub roomy : IsRoomy new
  pub size : new.objects.size ≡ old.objects.size
  pub full : old.objects.size < top + wanted
  pub ends : EndsBefore (unit_objects 1 u) top wanted
  pub within : 8 * (top + wanted) ≤ loaded_weight u
  pub passed : 8 * old.objects.size < loaded_weight u

-- no locals
abbrev pub no_locals : Frame
no_locals = record { nums = 0; refs = 0; num_params = 0; ref_params = 0 }

-- Which unit is run for a unit: itself; but for one whose frame has more locals on a stack than words it is one without code, of which there is no
-- first step.
pub data RunsAs (u : UnitView) : UnitView → Type 0 where
  itself : IsFrame (frame_in u) → RunsAs u u
  damaged : (IsFrame (frame_in u) → ⊥) → RunsAs u (unit [] no_constants no_locals)

-- the unit itself is loaded, or there is no room for it
abbrev pub LoadsUnit : Outside Space → UnitView → ℕ → List ℕ → Machine → Machine → Result (Unit {0}) SwizzleFault → Type 0
LoadsUnit outside u turns input old new (Ok done) = IsLoaded outside u turns input old new
LoadsUnit outside u turns input old new (Err fault) = HasNoRoom u old new fault

pub record Loads (outside : Outside Space) (u : UnitView) (turns : ℕ) (input : List ℕ) (old new : Machine) (answer : Result (Unit {0}) SwizzleFault) : Type 0 where
  pub run : UnitView
  pub chosen : RunsAs u run
  pub loads : LoadsUnit outside run turns input old new answer
