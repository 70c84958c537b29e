-- When two heaps that were kept are the same but for the ids of their objects.
use Rattle.std.specs.Prelude.{◌≡◌, ℕ, map}
use Rattle.std.specs.Option.{option_map}
use Rattle.ps_heap.specs.Values.{Value, Pointer, Vector, Procedure}
use Rattle.reaching.specs.Reaching.{IsIn, Reached}
use Rattle.ps_heap.specs.Tables.{Entry, entry_of, Table, without_keys, by_strings, by_ints}
use Rattle.ps_heap.specs.Objects.{Object, Structure, Elements, Scope, Keyed, object_at}
use Rattle.ps_heap.specs.References.{next_in}
use Rattle.ps_heap.specs.Databases.{Database, every_root}
use Rattle.ps_heap.specs.Held.{home_at, StoredHeap}

-- An object in which each id is another one.

abbrev pub renamed_value : (ℕ → ℕ) → Value → Value
renamed_value new (Pointer id) = Pointer (new id)
renamed_value new (Vector id) = Vector (new id)
renamed_value new (Procedure does scope) = Procedure does (option_map new scope)
renamed_value new v = v

abbrev pub renamed_entry : {K : Type 0} → (ℕ → ℕ) → Entry K → Entry K
renamed_entry new entry = entry_of entry.key (new entry.object)

abbrev pub renamed_table : (ℕ → ℕ) → Table → Table
renamed_table new without_keys = without_keys
renamed_table new (by_strings entries) = by_strings (map (renamed_entry new) entries)
renamed_table new (by_ints entries) = by_ints (map (renamed_entry new) entries)

abbrev pub renamed : (ℕ → ℕ) → Object → Object
renamed new (Structure class fields) = Structure class (map (renamed_value new) fields)
renamed new (Elements ty low elements) = Elements ty low (map (renamed_value new) elements)
renamed new (Scope text parent names) = Scope text (option_map new parent) (map (renamed_value new) names)
renamed new (Keyed table) = Keyed (renamed_table new table)

abbrev pub renamed_database : (ℕ → ℕ) → Database → Database
renamed_database new d = record { name = d.name; password = d.password; root = new d.root }

-- an object is reached from a root
abbrev pub IsInHeap : StoredHeap → ℕ → Type 0
IsInHeap heap id = Reached (λ x y. IsIn y (next_in heap.objects x)) (λ y. Unit {0}) (λ y. IsIn y (every_root heap.directory)) id

-- The databases stand in one order, with one name and password each; the ids of reached objects go with one another, one to one; the objects that go together
-- are equal but for these ids, and their homes are databases of one number.
pub record IsSame (a b : StoredHeap) : Type 0 where
  pub new : ℕ → ℕ
  pub back : ℕ → ℕ
  pub databases : b.directory ≡ map (renamed_database new) a.directory
  pub one : (id : ℕ) → IsInHeap a id → back (new id) ≡ id
  pub objects : (id : ℕ) → IsInHeap a id → object_at b.objects (new id) ≡ option_map (renamed new) (object_at a.objects id)
  pub homes : (id : ℕ) → IsInHeap a id → home_at b.homes (new id) ≡ home_at a.homes id
