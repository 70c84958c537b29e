-- Units of code that are seen: the code object of a unit, and the objects of its constants.
use Rattle.std.specs.Prelude.{◌≡◌, ℕ, List, [], ◌∷◌, take, drop, slice_index}
use Rattle.proc_values.specs.ps_base.CodeUnit.{UnitView, unit, ConstantView, text, literal, ConstantsView, no_constants, constant_then}
use Rattle.proc_values.specs.ps_base.declared.code_unit.Frame.{Frame}
use Rattle.proc_values.specs.obj_area.Words.{bytes_of}
use Rattle.proc_values.specs.obj_layout.declared.kind.Kind.TheVariants as kind
use Rattle.proc_values.specs.obj_layout.declared.reference.Reference.{Reference}
use Rattle.proc_values.specs.swizzle.Joint.{Shown}
use Rattle.heap_ops.specs.heap_places.Shapes.{IsText}
use Rattle.proc_values.specs.Units.{frame_word}

-- the bytes of a code object: those of its number words after its home and its frame
abbrev pub shown_code : Shown → List ℕ
shown_code it = take it.bytes (drop 16 (bytes_of it.nums))

-- what is seen of a code object with this code and this frame
pub record IsCodeOf (it : Shown) (code : List ℕ) (frame : Frame) : Type 0 where
  pub kind_is : it.kind ≡ kind.Code
  pub code_is : shown_code it ≡ code
  pub frame_is : slice_index it.nums 1 ≡ frame_word frame

unfoldable mutual
  -- a name is that of a unit's code object, which refers to the unit's constants
  pub IsUnitSeen : (Reference → Shown → Type 0) → Reference → UnitView → Type 0
  IsUnitSeen seen n (unit code constants frame) = (it : Shown) × seen n it × IsCodeOf it code frame × AreSeen seen it.refs constants

  -- each of these names is that of its constant
  pub AreSeen : (Reference → Shown → Type 0) → List Reference → ConstantsView → Type 0
  AreSeen seen [] no_constants = Unit {0}
  AreSeen seen (n ∷ ns) no_constants = ⊥
  AreSeen seen [] (constant_then first rest) = ⊥
  AreSeen seen (n ∷ ns) (constant_then first rest) = IsConstantSeen seen n first × AreSeen seen ns rest

  -- a name is that of the object of a constant
  pub IsConstantSeen : (Reference → Shown → Type 0) → Reference → ConstantView → Type 0
  IsConstantSeen seen n (text bytes) = IsText seen n bytes
  IsConstantSeen seen n (literal code) = IsUnitSeen seen n code
