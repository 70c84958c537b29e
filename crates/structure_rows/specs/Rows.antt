-- The values that a structure is made of at once: each row in the order of its fields.
use Rattle.std.specs.Prelude.{◌≡◌, ℕ, ◌/◌, ◌%◌, ◌<◌, ◌==◌, true, if◌then◌else◌, ℤ, List, [], ◌∷◌, ◌++◌, length, slice_index_or, zero, suc, Option, Some, None}
use Rattle.heap_places.specs.declared.value.Value as code
use Rattle.heap_places.specs.declared.value.Value.TheVariants as held
use Rattle.heap_places.specs.Words.{int_word, flag_word}
use Rattle.heap_places.specs.ps_heap.Operators.{is_int}
use Rattle.heap_places.specs.ps_heap.Values.{is_one}

-- what a word names: 0 is none, and any other the object of the area that begins there
abbrev pub object_in : ℕ → Option ℕ
object_in zero = None
object_in (suc n) = Some (suc n)

-- a number of a field, where the lowest bit tells whether the field is a bool
abbrev pub kept_one : ℕ → ℤ → code.Value
kept_one bits z = if bits % 2 == 1 then held.Flag (is_one z) else held.Num z

-- the word that it is kept as
abbrev pub kept_word : ℕ → ℤ → ℕ
kept_word bits z = if bits % 2 == 1 then flag_word (is_one z) else int_word z

abbrev pub kept : ℕ → List ℤ → List code.Value
kept bits [] = []
kept bits (z ∷ zs) = kept_one bits z ∷ kept (bits / 2) zs

-- what words name, as values in code
abbrev pub named : List ℕ → List code.Value
named [] = []
named (word ∷ words) = held.Ref (object_in word) ∷ named words

-- all values of a structure, but for the order of its fields
abbrev pub row_values : ℕ → List ℤ → List ℕ → List code.Value
row_values bits zs words = named words ++ kept bits zs

-- each of them is an int
abbrev pub AreInts : List ℤ → Type 0
AreInts zs = (i : ℕ) (d : ℤ) → i < length zs → is_int (slice_index_or zs i d) ≡ true
