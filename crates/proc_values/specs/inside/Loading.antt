-- The steps in which a unit is loaded.
use Rattle.std.specs.Prelude.{◌≡◌, ℕ, ◌+◌, List, ◌++◌, Result, Ok, Err, get_or}
use Rattle.ps_base.specs.CodeUnit.{UnitView, unit, ConstantView, ConstantsView}
use Rattle.heap_texts.specs.obj_layout.declared.kind.Kind.TheVariants.{Code}
use Rattle.heap_texts.specs.obj_layout.declared.reference.Reference.{Reference}
use Rattle.heap_texts.specs.obj_layout.declared.reference.Reference.TheVariants.{Nil, Local}
use Rattle.heap_texts.specs.swizzle.declared.fault.SwizzleFault.{SwizzleFault}
use Rattle.heap_texts.specs.swizzle.Heap.{Heap, IsHeld, IsMade, IsFull, blank, top_of}
use Rattle.heap_texts.specs.swizzle.Objects.{Object, size_of}
use Rattle.heap_texts.specs.Texts.{wanted_of}
use Rattle.proc_values.specs.Units.{code_nums, code_object, constant_objects, constants_objects, constants_places, constant_place, with_all, IsCut}

-- A constant was loaded: its objects were made, and this is its place; or there is no room for all of them.
abbrev pub LoadsConstant : Heap → Heap → ConstantView → Result ℕ SwizzleFault → Type 0
LoadsConstant old new c (Ok at) = (new ≡ with_all old (constant_objects (top_of old) c)) × (at ≡ constant_place (top_of old) c)
LoadsConstant old new c (Err fault) = IsCut old new (constant_objects (top_of old) c) fault

-- so were all constants
abbrev pub LoadsConstants : {T : Type 0} → Heap → Heap → ConstantsView → Result T SwizzleFault → Type 0
LoadsConstants old new cs (Ok done) = new ≡ with_all old (constants_objects (top_of old) cs)
LoadsConstants old new cs (Err fault) = IsCut old new (constants_objects (top_of old) cs) fault

-- These objects were made so far, and these are still to be made.
pub record SoFar (old new : Heap) (all rest : List Object) : Type 0 where
  pub done : List Object
  pub made : new ≡ with_all old done
  pub all_is : all ≡ done ++ rest

-- The last objects of the heap are those of these constants, and lie from an index on.
pub record AreLoaded (heap : Heap) (first : ℕ) (cs : ConstantsView) : Type 0 where
  pub before : Heap
  pub first_is : first ≡ top_of before
  pub are : heap ≡ with_all before (constants_objects first cs)

-- each of these that refers to the area refers to an object there
abbrev pub AreHeld : Heap → List Reference → Type 0
AreHeld heap references = (slot to : ℕ) → get_or references slot Nil ≡ Local to → IsHeld heap to

-- A code object without references and bytes was made, or there was no room for it.
abbrev pub MakesBlank : Heap → Heap → ℕ → ℕ → Result ℕ SwizzleFault → Type 0
MakesBlank old new constants bytes (Ok at) = IsMade old new at (blank Code constants (code_nums bytes) bytes)
MakesBlank old new constants bytes (Err fault) = IsFull old new (wanted_of (4 + constants + code_nums bytes)) fault

-- the code object of a unit whose constants lie from an index on
abbrev pub own_object : ℕ → UnitView → Object
own_object first (unit code constants frame) = code_object code frame (constants_places first constants)

-- It was made, or there was no room for it.
abbrev pub MakesCode : Heap → Heap → ℕ → UnitView → Result ℕ SwizzleFault → Type 0
MakesCode old new first u (Ok at) = IsMade old new at (own_object first u)
MakesCode old new first u (Err fault) = IsFull old new (wanted_of (size_of (own_object first u))) fault
