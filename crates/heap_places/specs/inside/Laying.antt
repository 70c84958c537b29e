-- How values are laid into the rows of an object, one by one.
use Rattle.std.specs.Prelude.{ℕ, ℤ, ◌+◌, ◌≤◌, List, [], ◌∷◌, ◌++◌, length, replicate, Option}
use Rattle.heap_texts.specs.obj_layout.declared.kind.Kind.{Kind}
use Rattle.heap_texts.specs.obj_layout.declared.reference.Reference.{Reference}
use Rattle.heap_texts.specs.obj_layout.declared.reference.Reference.TheVariants.{Nil, Local}
use Rattle.heap_texts.specs.swizzle.Objects.{Object}
use Rattle.heap_texts.specs.swizzle.Heap.{Heap, header_at, blank}
use Rattle.heap_texts.specs.text_forms.declared.forms.Rows.{Rows}
use Rattle.heap_places.specs.declared.value.Value.{Value}
use Rattle.heap_places.specs.declared.value.Value.TheVariants.{Num, Flag, Ref}
use Rattle.heap_places.specs.Places.{with_value}
use Rattle.heap_places.specs.Filling.{refs_of, words_of, first_words}

-- how many of the values lie in each row
abbrev pub rows_in : List Value → Rows
rows_in values = record { refs = length (refs_of values); nums = length (words_of values) }

-- the index in its row for a value
abbrev pub index_in : Rows → Value → ℕ
index_in next (Num z) = next.nums
index_in next (Flag b) = next.nums
index_in next (Ref to) = next.refs

-- the indexes after it
abbrev pub behind : Rows → Value → Rows
behind next (Num z) = record next { nums = 1 + next.nums }
behind next (Flag b) = record next { nums = 1 + next.nums }
behind next (Ref to) = record next { refs = 1 + next.refs }

-- the heap with values in the rows of an object, from these indexes on
abbrev pub with_values : Heap → ℕ → Rows → List Value → Heap
with_values heap at next [] = heap
with_values heap at next (v ∷ vs) = with_values (with_value heap at (index_in next v) v) at (behind next v) vs

-- the object has places for values, from these indexes on
pub record HasRows (heap : Heap) (at : ℕ) (next : Rows) (values : List Value) : Type 0 where
  pub refs : next.refs + length (refs_of values) ≤ (header_at heap at).refs
  pub nums : next.nums + length (words_of values) ≤ (header_at heap at).nums

-- an object with these references and words
abbrev pub laid : Kind → ℕ → ℕ → List Reference → List ℕ → Object
laid kind refs nums rs ns = record (blank kind refs nums 0) { refs = rs; nums = ns }

-- a new object that refers to a text, and has room for so many values
abbrev pub roomy : Kind → ℕ → Option ℤ → Rows → Object
roomy kind text low rows =
    laid kind (1 + rows.refs) (length (first_words low) + rows.nums) (Local text ∷ replicate rows.refs Nil) (first_words low ++ replicate rows.nums 0)
