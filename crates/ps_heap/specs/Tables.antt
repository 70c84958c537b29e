-- Tables: finite maps from keys to objects, in key order.
use Rattle.std.specs.Prelude.{◌≡◌, ℕ, ℤ, Bool, false, List, [], ◌∷◌, length, Option, Some, None}
use Rattle.std.specs.Option.{option_map}
use Rattle.std.specs.Ordering.{is_eq, int_cmp}
use Rattle.std.specs.declared.cmp.Ordering.{Ordering}
use Rattle.std.specs.declared.cmp.Ordering.TheVariants.{Less}
use Rattle.avl_trees.specs.Rising.{find, above, enter, without}
use Rattle.avl_trees.specs.Rising as rising
use Rattle.ps_base.specs.declared.trap.Trap.TheVariants.{KeyKind}
use Rattle.ps_heap.specs.Texts.{Attempt, Yields, Fails, order_of, is_same_text}

pub data Key : Type 0 where
  string_key : (bytes : List ℕ) → Key
  int_key : (value : ℤ) → Key

abbrev pub is_same_key : Key → Key → Bool
is_same_key (string_key a) (string_key b) = is_same_text a b
is_same_key (int_key a) (int_key b) = is_eq (int_cmp a b)
is_same_key a b = false

-- Under a key a table has a structure or a table, by its id. Nil is under no key.
pub record Entry (K : Type 0) : Type 0 where
  pub key : K
  pub object : ℕ

-- A table has no kind of key before its first entry. Then its keys are all strings or all ints, for good, also where no entry is left.
pub data Table : Type 0 where
  without_keys : Table
  by_strings : (entries : List (Entry (List ℕ))) → Table
  by_ints : (entries : List (Entry ℤ)) → Table

-- Entries, by an order of their keys.

-- whether a key is below that of an entry, is it, or is above it
abbrev pub seek : {K : Type 0} → (K → K → Ordering) → K → Entry K → Ordering
seek order key entry = order key entry.key

abbrev pub entry_of : {K : Type 0} → K → ℕ → Entry K
entry_of key object = record { key = key; object = object }

abbrev pub with_entry_object : {K : Type 0} → ℕ → Entry K → Entry K
with_entry_object object entry = entry_of entry.key object

-- what is under a key, or nothing
abbrev pub found_under : {K : Type 0} → (K → K → Ordering) → K → List (Entry K) → Option ℕ
found_under order key entries = option_map (λ entry. entry.object) (find (seek order key) entries)

-- the entries with this object under the key; where it is none, without the key
abbrev pub with_under : {K : Type 0} → (K → K → Ordering) → K → Option ℕ → List (Entry K) → List (Entry K)
with_under order key None entries = without (seek order key) entries
with_under order key (Some object) entries = enter (seek order key) (with_entry_object object) (entry_of key object) entries

abbrev pub first_of : {A : Type 0} → List A → Option A
first_of [] = None
first_of (a ∷ more) = Some a

-- the entry with the least key above another key, which need not be there; or the least of all
abbrev pub next_of : {K : Type 0} → (K → K → Ordering) → Option K → List (Entry K) → Option (Entry K)
next_of order None entries = first_of entries
next_of order (Some key) entries = above (seek order key) entries

-- each key is below those after it
abbrev pub AreInKeyOrder : {K : Type 0} → (K → K → Ordering) → List (Entry K) → Type 0
AreInKeyOrder order entries = rising.AreRising (λ a b. order a.key b.key ≡ Less) entries

-- strings are in order by their bytes, ints as numbers
abbrev pub IsInKeyOrder : Table → Type 0
IsInKeyOrder without_keys = Unit {0}
IsInKeyOrder (by_strings entries) = AreInKeyOrder order_of entries
IsInKeyOrder (by_ints entries) = AreInKeyOrder int_cmp entries

-- Tables. A table whose keys are of one kind isn't used with keys of the other.

abbrev pub strings_in : Table → Attempt (List (Entry (List ℕ)))
strings_in without_keys = Yields []
strings_in (by_strings entries) = Yields entries
strings_in (by_ints entries) = Fails KeyKind

abbrev pub ints_in : Table → Attempt (List (Entry ℤ))
ints_in without_keys = Yields []
ints_in (by_ints entries) = Yields entries
ints_in (by_strings entries) = Fails KeyKind

abbrev pub on_yield : {A B : Type 0} → Attempt A → (A → B) → Attempt B
on_yield (Yields a) f = Yields (f a)
on_yield (Fails trap) f = Fails trap

-- a table in which nothing was entered yet, and nothing is entered now, has no kind of key still
abbrev pub kind_kept : Table → Option ℕ → Table → Table
kind_kept without_keys None new = without_keys
kind_kept table object new = new

-- the table with this object under a key; where it is none, without the key
unfoldable pub entered : Key → Option ℕ → Table → Attempt Table
entered (string_key bytes) object table =
    on_yield (strings_in table) (λ entries. kind_kept table object (by_strings (with_under order_of bytes object entries)))
entered (int_key value) object table =
    on_yield (ints_in table) (λ entries. kind_kept table object (by_ints (with_under int_cmp value object entries)))

-- what a table has under a key, or nothing
unfoldable pub looked_up : Key → Table → Attempt (Option ℕ)
looked_up (string_key bytes) table = on_yield (strings_in table) (found_under order_of bytes)
looked_up (int_key value) table = on_yield (ints_in table) (found_under int_cmp value)

-- the entry with the least key above one, or the least of all; or none
unfoldable pub next_string : Option (List ℕ) → Table → Attempt (Option (Entry (List ℕ)))
next_string last table = on_yield (strings_in table) (next_of order_of last)

unfoldable pub next_int : Option ℤ → Table → Attempt (Option (Entry ℤ))
next_int last table = on_yield (ints_in table) (next_of int_cmp last)

unfoldable pub cardinality : Table → ℕ
cardinality without_keys = 0
cardinality (by_strings entries) = length entries
cardinality (by_ints entries) = length entries
