-- A unit that lies in a heap: its code object, and the objects of its constants.
use Rattle.std.specs.Prelude.{◌≡◌, ℕ, zero, suc, ◌+◌, ◌<◌, ◌^◌, List, [], ◌∷◌, length, Option, Some, None}
use Rattle.ps_base.specs.CodeUnit.{UnitView, unit, ConstantView, text, literal, ConstantsView, no_constants, constant_then}
use Rattle.ps_base.specs.declared.code_unit.Frame.{Frame}
use Rattle.heap_texts.specs.obj_area.Words.{AreBytes}
use Rattle.heap_texts.specs.obj_layout.declared.kind.Kind.TheVariants.{Text, Code}
use Rattle.heap_texts.specs.obj_layout.declared.reference.Reference.{Reference}
use Rattle.heap_texts.specs.swizzle.Heap.{Heap, IsHeld, header_at, num_at}
use Rattle.heap_texts.specs.swizzle.Joint.{shown_at}
use Rattle.heap_texts.specs.swizzle.Text.{HasBytes, text_at}
use Rattle.heap_texts.specs.swizzle.Touch.{Denotes, Stays}
use Rattle.proc_values.specs.Units.{count_of, frame_word}
use Rattle.proc_values.specs.declared.reading.CodePlace.{CodePlace}

-- a text with these bytes begins there
pub record IsText (heap : Heap) (at : ℕ) (bytes : List ℕ) : Type 0 where
  pub held : IsHeld heap at
  pub kind : (header_at heap at).kind ≡ Text
  pub bytes_are : text_at heap at ≡ bytes

-- a code object with this code, this frame and so many constants begins there
pub record IsCode (heap : Heap) (at : ℕ) (code : List ℕ) (frame : Frame) (count : ℕ) : Type 0 where
  pub held : IsHeld heap at
  pub kind : (header_at heap at).kind ≡ Code
  pub code_is : text_at heap at ≡ code
  pub frame_is : num_at heap at 1 ≡ frame_word frame
  pub count_is : (header_at heap at).refs ≡ count

unfoldable mutual
  -- the code object of a unit begins there, and its references are the names of the unit's constants
  pub IsUnit : Heap → ℕ → UnitView → Type 0
  IsUnit heap at (unit code constants frame) = IsCode heap at code frame (count_of constants) × AreNamed heap (shown_at heap at).refs constants

  -- each of these names denotes the object of its constant
  pub AreNamed : Heap → List Reference → ConstantsView → Type 0
  AreNamed heap [] no_constants = Unit {0}
  AreNamed heap (name ∷ names) no_constants = ⊥
  AreNamed heap [] (constant_then first rest) = ⊥
  AreNamed heap (name ∷ names) (constant_then first rest) = ((at : ℕ) × Denotes heap (Some at) name × IsConstant heap at first) × AreNamed heap names rest

  -- the object of a constant begins there
  pub IsConstant : Heap → ℕ → ConstantView → Type 0
  IsConstant heap at (text bytes) = IsText heap at bytes
  IsConstant heap at (literal code) = IsUnit heap at code

-- where the bytes of a unit's code lie, whose code object begins there: after its header, its constants, its home and its frame
abbrev pub IsUnitPlace : ℕ → UnitView → CodePlace → Type 0
IsUnitPlace at (unit code constants frame) place = (place.first ≡ at + 6 + count_of constants) × (place.count ≡ length code)

-- the constant of a number
abbrev pub constant_numbered : ConstantsView → ℕ → Option ConstantView
constant_numbered no_constants index = None
constant_numbered (constant_then first rest) zero = Some first
constant_numbered (constant_then first rest) (suc index) = constant_numbered rest index

-- texts and code objects stay where they are, and show as they did
abbrev pub CodeStays : Heap → Heap → Type 0
CodeStays old new = (at : ℕ) → IsHeld old at → HasBytes (header_at old at).kind → Stays old new at

-- the numbers of a frame have 16 bits
pub record IsFitFrame (frame : Frame) : Type 0 where
  pub nums : frame.nums < 2 ^ 16
  pub refs : frame.refs < 2 ^ 16
  pub num_params : frame.num_params < 2 ^ 16
  pub ref_params : frame.ref_params < 2 ^ 16

unfoldable mutual
  -- its code and its texts are bytes, and its frames are fit
  pub IsFitUnit : UnitView → Type 0
  IsFitUnit (unit code constants frame) = AreBytes code × IsFitFrame frame × AreFitConstants constants

  pub AreFitConstants : ConstantsView → Type 0
  AreFitConstants no_constants = Unit {0}
  AreFitConstants (constant_then first rest) = IsFitConstant first × AreFitConstants rest

  pub IsFitConstant : ConstantView → Type 0
  IsFitConstant (text bytes) = AreBytes bytes
  IsFitConstant (literal code) = IsFitUnit code
