-- What stands in the places of an object, and to what objects refer.
use Rattle.std.specs.Prelude.{ℕ, List, [], ◌∷◌, ◌++◌, set, Option, Some, None}
use Rattle.ps_heap.specs.Values.{Value, Pointer, Vector, Procedure}
use Rattle.ps_heap.specs.Tables.{Entry, without_keys, by_strings, by_ints}
use Rattle.ps_heap.specs.Objects.{Object, Structure, Elements, Scope, Keyed, Heap, object_at}
use Rattle.ps_heap.specs.Scopes.{parent_in}

abbrev pub pointers : {K : Type 0} → List (Entry K) → List Value
pointers [] = []
pointers (entry ∷ entries) = Pointer entry.object ∷ pointers entries

-- the values in the places of an object: its fields, its elements, its names, or what is under its keys
abbrev pub values_of : Object → List Value
values_of (Structure class fields) = fields
values_of (Elements ty low elements) = elements
values_of (Scope text parent names) = names
values_of (Keyed without_keys) = []
values_of (Keyed (by_strings entries)) = pointers entries
values_of (Keyed (by_ints entries)) = pointers entries

-- the object with another value as its field, element or name of this number
abbrev pub with_part : Object → ℕ → Value → Object
with_part (Structure class fields) n v = Structure class (set fields n v)
with_part (Elements ty low elements) n v = Elements ty low (set elements n v)
with_part (Scope text parent names) n v = Scope text parent (set names n v)
with_part (Keyed table) n v = Keyed table

-- One step of reference: from an object to those that values in its places denote, to its parent, and to the scopes of procedures in its places.

abbrev pub scope_ids : Option ℕ → List ℕ
scope_ids None = []
scope_ids (Some id) = id ∷ []

abbrev pub value_ids : Value → List ℕ
value_ids (Pointer id) = id ∷ []
value_ids (Vector id) = id ∷ []
value_ids (Procedure does scope) = scope_ids scope
value_ids _ = []

abbrev pub values_ids : List Value → List ℕ
values_ids [] = []
values_ids (v ∷ vs) = value_ids v ++ values_ids vs

abbrev pub object_ids : Option Object → List ℕ
object_ids None = []
object_ids (Some object) = scope_ids (parent_in (Some object)) ++ values_ids (values_of object)

unfoldable pub next_in : Heap → ℕ → List ℕ
next_in heap id = object_ids (object_at heap id)
