-- A unit of code as objects: those of its constants one after the other, and after them the code object, which refers to them.
use Rattle.std.specs.Prelude.{◌≡◌, ℕ, ◌+◌, ◌*◌, ◌<◌, ◌≤◌, ◌^◌, List, [], ◌∷◌, ◌++◌, length, Result, Ok, Err}
use Rattle.ps_base.specs.CodeUnit.{UnitView, unit, ConstantView, text, literal, ConstantsView, no_constants, constant_then}
use Rattle.ps_base.specs.declared.code_unit.Frame.{Frame}
use Rattle.heap_texts.specs.obj_area.Area.{words_spanned}
use Rattle.heap_texts.specs.obj_layout.declared.kind.Kind.TheVariants.{Code}
use Rattle.heap_texts.specs.obj_layout.declared.reference.Reference.{Reference}
use Rattle.heap_texts.specs.obj_layout.declared.reference.Reference.TheVariants.{Local}
use Rattle.heap_texts.specs.swizzle.declared.fault.SwizzleFault.{SwizzleFault}
use Rattle.heap_texts.specs.swizzle.declared.fault.SwizzleFault.TheVariants.{AreaFull}
use Rattle.heap_texts.specs.swizzle.Objects.{Object, size_of}
use Rattle.heap_texts.specs.swizzle.Heap.{Heap, top_of, blank}
use Rattle.heap_texts.specs.swizzle.Text.{with_bytes_at}
use Rattle.heap_texts.specs.Texts.{text_object, text_nums, wanted_of}

-- the frame as one word, 16 bits each from the low end: number locals, reference locals, number parameters, reference parameters
unfoldable pub frame_word : Frame → ℕ
frame_word frame = frame.nums + frame.refs * 2 ^ 16 + frame.num_params * 2 ^ 32 + frame.ref_params * 2 ^ 48

-- the number words of code of so many bytes: its home, its frame, and the bytes
abbrev pub code_nums : ℕ → ℕ
code_nums bytes = 2 + words_spanned bytes

-- the object of a unit whose constants lie at these places
unfoldable pub code_object : List ℕ → Frame → List Reference → Object
code_object code frame constants =
    with_bytes_at (record (blank Code (length constants) (code_nums (length code)) (length code)) {
      refs = constants;
      nums = 0 ∷ frame_word frame ∷ (blank Code 0 (words_spanned (length code)) 0).nums;
    }) 0 code

-- how many constants a unit has
unfoldable pub count_of : ConstantsView → ℕ
count_of no_constants = 0
count_of (constant_then first rest) = 1 + count_of rest

unfoldable mutual
  -- the objects of a unit that lie from an index on
  pub unit_objects : ℕ → UnitView → List Object
  unit_objects at (unit code constants frame) = constants_objects at constants ++ code_object code frame (constants_places at constants) ∷ []

  pub constants_objects : ℕ → ConstantsView → List Object
  constants_objects at no_constants = []
  constants_objects at (constant_then first rest) = constant_objects at first ++ constants_objects (at + constant_words first) rest

  pub constant_objects : ℕ → ConstantView → List Object
  constant_objects at (text bytes) = text_object bytes ∷ []
  constant_objects at (literal code) = unit_objects at code

  -- the references to the constants: to a text, and to the code object after the objects of its own constants
  pub constants_places : ℕ → ConstantsView → List Reference
  constants_places at no_constants = []
  constants_places at (constant_then first rest) = Local (constant_place at first) ∷ constants_places (at + constant_words first) rest

  pub constant_place : ℕ → ConstantView → ℕ
  constant_place at (text bytes) = at
  constant_place at (literal code) = unit_place at code

  -- where the code object of a unit lies
  pub unit_place : ℕ → UnitView → ℕ
  unit_place at (unit code constants frame) = at + constants_words constants

  -- how many words these have
  pub unit_words : UnitView → ℕ
  unit_words (unit code constants frame) = constants_words constants + (4 + count_of constants + code_nums (length code))

  pub constants_words : ConstantsView → ℕ
  constants_words no_constants = 0
  constants_words (constant_then first rest) = constant_words first + constants_words rest

  pub constant_words : ConstantView → ℕ
  constant_words (text bytes) = 4 + text_nums (length bytes)
  constant_words (literal code) = unit_words code

unfoldable mutual
  -- each of its units has a constant: the text of its type comes first
  pub HasConstants : UnitView → Type 0
  HasConstants (unit code constants frame) = (1 ≤ count_of constants) × AllHaveConstants constants

  pub AllHaveConstants : ConstantsView → Type 0
  AllHaveConstants no_constants = Unit {0}
  AllHaveConstants (constant_then (text bytes) rest) = AllHaveConstants rest
  AllHaveConstants (constant_then (literal u) rest) = HasConstants u × AllHaveConstants rest

-- the heap with these objects after its own
abbrev pub with_all : Heap → List Object → Heap
with_all heap objects = record heap { objects = heap.objects ++ objects }

-- The objects that come first were made, and there is no room for the next one.
pub record IsCut (old new : Heap) (objects : List Object) (fault : SwizzleFault) : Type 0 where
  pub front : List Object
  pub next : Object
  pub rest : List Object
  pub cut : objects ≡ front ++ next ∷ rest
  pub made : new ≡ with_all old front
  pub full : new.size < top_of new + size_of next
  pub fault_is : fault ≡ AreaFull (top_of new) (wanted_of (size_of next)) new.size

-- A unit was loaded: its objects were made, and this is its code object; or there is no room for all of them.
abbrev pub Loads : Heap → Heap → UnitView → Result ℕ SwizzleFault → Type 0
Loads old new u (Ok at) = (new ≡ with_all old (unit_objects (top_of old) u)) × (at ≡ unit_place (top_of old) u)
Loads old new u (Err fault) = IsCut old new (unit_objects (top_of old) u) fault
