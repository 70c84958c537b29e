-- Values one after another in the rows of a new object.
use Rattle.std.specs.Prelude.{ℕ, ℤ, ◌+◌, List, [], ◌∷◌, ◌++◌, length, Option, Some, None, Result, Ok, Err}
use Rattle.heap_texts.specs.obj_layout.declared.kind.Kind.{Kind}
use Rattle.heap_texts.specs.obj_layout.declared.reference.Reference.{Reference}
use Rattle.heap_texts.specs.obj_layout.declared.reference.Reference.TheVariants.{Local}
use Rattle.heap_texts.specs.swizzle.declared.fault.SwizzleFault.{SwizzleFault}
use Rattle.heap_texts.specs.swizzle.Objects.{Object}
use Rattle.heap_texts.specs.Texts.{wanted_of}
use Rattle.heap_texts.specs.swizzle.Heap.{Heap, IsMade, IsFull, reference_to, blank}
use Rattle.heap_places.specs.declared.value.Value.{Value}
use Rattle.heap_places.specs.declared.value.Value.TheVariants.{Num, Flag, Ref}
use Rattle.heap_places.specs.Words.{int_word, flag_word}
use Rattle.heap_places.specs.Places.{IsNear}

-- the references of values, in their order
unfoldable pub refs_of : List Value → List Reference
refs_of [] = []
refs_of (Num z ∷ vs) = refs_of vs
refs_of (Flag b ∷ vs) = refs_of vs
refs_of (Ref to ∷ vs) = reference_to to ∷ refs_of vs

-- the words of values, in their order
unfoldable pub words_of : List Value → List ℕ
words_of [] = []
words_of (Num z ∷ vs) = int_word z ∷ words_of vs
words_of (Flag b ∷ vs) = flag_word b ∷ words_of vs
words_of (Ref to ∷ vs) = words_of vs

-- the object of each value lies in the area
abbrev pub AreNear : Heap → List Value → Type 0
AreNear heap [] = Unit {0}
AreNear heap (v ∷ vs) = IsNear heap v × AreNear heap vs

-- the number words before the values: the home, which is 0, and of a vector its lower bound
abbrev pub first_words : Option ℤ → List ℕ
first_words None = 0 ∷ []
first_words (Some low) = 0 ∷ int_word low ∷ []

-- a new object that refers to a text, and has these values after
unfoldable pub filled : Kind → ℕ → Option ℤ → List Value → Object
filled kind text low values = record (blank kind (1 + length (refs_of values)) (length (first_words low) + length (words_of values)) 0) {
  refs = Local text ∷ refs_of values;
  nums = first_words low ++ words_of values;
}

-- how many words it has
unfoldable pub filled_words : Option ℤ → List Value → ℕ
filled_words low values = 4 + (1 + length (refs_of values)) + (length (first_words low) + length (words_of values))

-- it was made, or there was no room for it
abbrev pub Fills : Heap → Heap → Kind → ℕ → Option ℤ → List Value → Result ℕ SwizzleFault → Type 0
Fills old new kind text low values (Ok at) = IsMade old new at (filled kind text low values)
Fills old new kind text low values (Err fault) = IsFull old new (wanted_of (filled_words low values)) fault
