-- The names of the heap's objects in a row, each at its number. A heap's numbers are those of its objects in the order in which they came, so that
-- a row of names is a pairing that grows at its end.
use Rattle.std.specs.Prelude.{◌≡◌, ℕ, zero, suc, List, [], ◌∷◌, ◌++◌, length, Option, Some, None}
use Rattle.proc_values.specs.obj_layout.declared.reference.Reference as reference
use Rattle.proc_values.specs.ps_heap.Objects.{Heap}
use Rattle.heap_meaning.specs.Standing.{Seen, Pairing, Stands}

-- the name at a number
abbrev pub name_in : List reference.Reference → ℕ → Option reference.Reference
name_in [] id = None
name_in (n ∷ ns) zero = Some n
name_in (n ∷ ns) (suc id) = name_in ns id

-- the pairing of a row of names
abbrev pub paired : List reference.Reference → Pairing
paired names n id = name_in names id ≡ Some n

-- What is seen stands for the heap, and each of its objects has a name in the row.
pub record StandsRow (seen : Seen) (heap : Heap) (names : List reference.Reference) : Type 0 where
  pub stands : Stands seen heap (paired names)
  pub long : length names ≡ length heap

-- the row with one name more
abbrev pub and_name : List reference.Reference → reference.Reference → List reference.Reference
and_name names n = names ++ n ∷ []
