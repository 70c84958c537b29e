-- Units of code: loaded into the area beside a vault, and their constants read.
use Rattle.std.specs.Prelude.{◌≡◌, ◌⊎◌, ℕ, ◌+◌, ◌*◌, ◌<◌, ◌≤◌, List, [], Result, Ok, Err, Some, None}
use Rattle.heap_meaning.specs.ps_base.CodeUnit.{UnitView, ConstantView, text, literal, ConstantsView}
use Rattle.heap_meaning.specs.ps_outside.Outside.{Outside}
use Rattle.heap_meaning.specs.obj_layout.Stored.{Space}
use Rattle.heap_meaning.specs.obj_layout.declared.kind.Kind.TheVariants as kind
use Rattle.heap_meaning.specs.obj_layout.declared.reference.Reference as reference
use Rattle.heap_meaning.specs.swizzle.Heap as area
use Rattle.heap_meaning.specs.swizzle.Heap.{top_of, header_at}
use Rattle.heap_meaning.specs.swizzle.declared.fault.SwizzleFault.{SwizzleFault}
use Rattle.heap_meaning.specs.swizzle.declared.fault.SwizzleFault.TheVariants.{AreaFull}
use Rattle.heap_meaning.specs.proc_values.Units.{unit_words, HasConstants}
use Rattle.heap_meaning.specs.proc_values.Reading.{IsDamaged}
use Rattle.heap_meaning.specs.proc_values.Loaded.{IsFitUnit, constant_numbered}
use Rattle.heap_meaning.specs.ps_heap.Values.{Text}
use Rattle.heap_meaning.specs.ps_heap.Objects.{Heap}
use Rattle.joint_ops.specs.Seeing.{Gains}
use Rattle.joint_ops.specs.World.{IsWorld, DenotesIn, IsUnitIn, Carried, Stands, BreaksOff}

-- how many bytes the objects of a unit have
abbrev pub unit_weight : UnitView → ℕ
unit_weight u = 8 * unit_words u

-- A unit was loaded: its code object lies there, and what area and vault stood for they stand for still; under no names they stand for the empty
-- heap. Where its units have constants, its objects are whole.
pub record IsLoaded (old new : area.Heap) (outside : Outside Space) (u : UnitView) (at : ℕ) : Type 0 where
  pub is : IsUnitIn new outside at u
  pub fit : IsFitUnit u
  pub top : 8 * top_of new ≡ 8 * top_of old + unit_weight u
  pub bare : IsWorld new outside [] []
  pub stands : (of : Heap) (names : List reference.Reference) → IsWorld old outside of names → Carried old new outside outside of names
  pub gains : HasConstants u → Gains old new outside outside

-- There was no room for all objects of the unit: some may have been made, and the next one didn't fit.
pub record HasNoRoom (old : area.Heap) (u : UnitView) (fault : SwizzleFault) : Type 0 where
  pub top : ℕ
  pub wanted : ℕ
  pub fault_is : fault ≡ AreaFull top wanted old.size
  pub full : old.size < top + wanted
  pub within : 8 * (top + wanted) ≤ 8 * top_of old + unit_weight u
  pub words : 8 * wanted ≤ unit_weight u

abbrev pub LoadsUnit : area.Heap → area.Heap → Outside Space → UnitView → Result ℕ SwizzleFault → Type 0
LoadsUnit old new outside u (Ok at) = IsLoaded old new outside u at
LoadsUnit old new outside u (Err fault) = HasNoRoom old u fault

-- an object of the area is that of a constant
abbrev pub DenotesConstant : area.Heap → Outside Space → ℕ → ConstantView → Type 0
DenotesConstant here outside at (text bytes) =
    ((header_at here at).kind ≡ kind.Text) × ((names : List reference.Reference) → DenotesIn here outside names (Some at) (Text bytes))
DenotesConstant here outside at (literal u) = IsUnitIn here outside at u

-- The constant of a number of a unit whose code object lies in the area; or it broke off. The code object is damaged exactly where the unit has no
-- such constant.
abbrev pub AnswersConstant : area.Heap → area.Heap → Outside Space → Outside Space → ℕ → ConstantsView → ℕ → Result ℕ SwizzleFault → Type 0
AnswersConstant old new before after code constants index (Ok at) =
    (c : ConstantView) × (constant_numbered constants index ≡ Some c) × DenotesConstant new after at c
AnswersConstant old new before after code constants index (Err fault) =
    ((constant_numbered constants index ≡ None) × IsDamaged old code fault)
    ⊎ ((c : ConstantView) × (constant_numbered constants index ≡ Some c) × BreaksOff old new before after fault)

-- Where this is the code object of a unit, area and vault stand for what they stood for.
abbrev pub StandsBy : area.Heap → area.Heap → Outside Space → Outside Space → ℕ → Type 0
StandsBy old new before after code = (u : UnitView) → IsUnitIn old before code u → (of : Heap) (names : List reference.Reference)
    → IsWorld old before of names → Stands old new before after of names
