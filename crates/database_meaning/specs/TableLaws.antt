-- What is so of tables: they are finite maps, in key order, of one kind of keys.
use Rattle.std.specs.Prelude.{◌≡◌, ◌≢◌, ◌⊎◌, ℕ, ℤ, false, List, [], ◌∷◌, Option, Some, None}
use Rattle.std.specs.Ordering.{int_cmp}
use Rattle.std.specs.declared.cmp.Ordering.{Ordering}
use Rattle.std.specs.declared.cmp.Ordering.TheVariants.{Less}
use Rattle.ps_heap.specs.Texts.{Yields, order_of}
use Rattle.ps_heap.specs.Tables.{Key, is_same_key, Entry, Table, without_keys, by_strings, by_ints, next_of, AreInKeyOrder, IsInKeyOrder, entered, looked_up}

-- what was entered is found; where it was nothing, nothing is
abbrev pub EnteredIsFound : Type 0
EnteredIsFound = (key : Key) (object : Option ℕ) (old new : Table) → IsInKeyOrder old → entered key object old ≡ Yields new → looked_up key new ≡ Yields object

-- under each other key is what was there
abbrev pub OthersStay : Type 0
OthersStay = (key other : Key) (object found : Option ℕ) (old new : Table) → IsInKeyOrder old → is_same_key other key ≡ false → entered key object old ≡ Yields new
    → looked_up other new ≡ Yields found → looked_up other old ≡ Yields found

abbrev pub KeysStayInOrder : Type 0
KeysStayInOrder = (key : Key) (object : Option ℕ) (old new : Table) → IsInKeyOrder old → entered key object old ≡ Yields new → IsInKeyOrder new

-- a table by strings stays one, and so does one by ints
abbrev pub AreOfOneKind : Table → Table → Type 0
AreOfOneKind without_keys new = Unit {0}
AreOfOneKind (by_strings entries) new = (more : List (Entry (List ℕ))) × (new ≡ by_strings more)
AreOfOneKind (by_ints entries) new = (more : List (Entry ℤ)) × (new ≡ by_ints more)

abbrev pub KindsStay : Type 0
KindsStay = (key : Key) (object : Option ℕ) (old new : Table) → entered key object old ≡ Yields new → AreOfOneKind old new

-- The next entry is the least of those above the last key, or of all; there is none where no entry is above.
abbrev pub HasEntry : {K : Type 0} → Entry K → List (Entry K) → Type 0
HasEntry entry [] = ⊥
HasEntry entry (other ∷ entries) = (entry ≡ other) ⊎ HasEntry entry entries

abbrev pub IsAbove : {K : Type 0} → (K → K → Ordering) → Option K → K → Type 0
IsAbove order None key = Unit {0}
IsAbove order (Some last) key = order last key ≡ Less

abbrev pub IsNext : {K : Type 0} → (K → K → Ordering) → Option K → List (Entry K) → Option (Entry K) → Type 0
IsNext {K} order last entries None = (entry : Entry K) → HasEntry entry entries → IsAbove order last entry.key → ⊥
IsNext {K} order last entries (Some found) =
    HasEntry found entries × IsAbove order last found.key
    × ((entry : Entry K) → HasEntry entry entries → IsAbove order last entry.key → order entry.key found.key ≢ Less)

abbrev pub NextIsLeast : Type 0
NextIsLeast =
    ((last : Option (List ℕ)) (entries : List (Entry (List ℕ))) → AreInKeyOrder order_of entries → IsNext order_of last entries (next_of order_of last entries))
    × ((last : Option ℤ) (entries : List (Entry ℤ)) → AreInKeyOrder int_cmp entries → IsNext int_cmp last entries (next_of int_cmp last entries))

pub record AreFiniteMaps : Type 0 where
  pub found : EnteredIsFound
  pub others : OthersStay
  pub order : KeysStayInOrder
  pub kinds : KindsStay
  pub next : NextIsLeast
