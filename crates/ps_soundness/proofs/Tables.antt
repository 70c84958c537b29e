-- Tables keep their types: what is under keys, what is entered, and which key comes next.
use Rattle.std.proofs.Common.{◌≡◌, ℕ, ℤ, Bool, true, false, List, [], ◌∷◌, Option, Some, None, refl, set}
use Rattle.std.specs.List.{AllByRecursion}
use Rattle.std.specs.Option.{option_map}
use Rattle.std.specs.Ordering.{int_cmp}
use Rattle.std.specs.declared.cmp.Ordering.{Ordering}
use Rattle.std.specs.declared.cmp.Ordering.TheVariants.{Less, Equal, Greater}
use Rattle.ps_heap.specs.avl_trees.Rising.{pick, find, above, enter, without}
use Rattle.ps_heap.specs.Operators.{is_int}
use Rattle.ps_heap.specs.Texts.{Attempt, is_string, order_of}
use Rattle.ps_heap.specs.Values.{Value, Num, Flag, Text, Nil, Pointer, Vector, Procedure, Nothing}
use Rattle.ps_heap.specs.Tables.{Key, string_key, int_key, Entry, entry_of, with_entry_object, Table, without_keys, by_strings, by_ints, seek, with_under, next_of, entered, looked_up, next_string, next_int}
use Rattle.ps_heap.specs.Objects.{Heap, Object, Structure, Elements, Scope, Keyed, object_at, table_in, table_of}
use Rattle.ps_heap.specs.Calls.{then_try}
use Rattle.ps_heap.specs.Scans.{Found, found_of, last_string, last_int, next_in_table, next_key}
use Rattle.ps_soundness.specs.Over.{IsTypedHeap}
use Rattle.ps_soundness.specs.Shapes.{IsPointedAt, IsTypedTable}
use Rattle.ps_soundness.proofs.Notion.{Kind}
use Rattle.ps_soundness.proofs.Operators.{OnYield}
use Rattle.ps_soundness.proofs.Growing.{grows_set, typed_set}
use Rattle.ps_soundness.proofs.Combining.{IsNext}

abbrev pub AreEntries : {K : Type 0} → Heap → (K → Type 0) → List (Entry K) → Type 0
AreEntries {K} heap P entries = AllByRecursion (λ (entry : Entry K). P entry.key × IsPointedAt heap entry.object) entries

-- nothing, or a structure or a table
abbrev pub MayBePointed : Heap → Option ℕ → Type 0
MayBePointed heap None = Unit {0}
MayBePointed heap (Some id) = IsPointedAt heap id

-- a key is a string or an int
abbrev pub IsKey : Key → Type 0
IsKey (string_key bytes) = is_string bytes ≡ true
IsKey (int_key value) = is_int value ≡ true

-- Entries.

without_are : {K : Type 0} (heap : Heap) (P : K → Type 0) (probe : Entry K → Ordering) (entries : List (Entry K)) → AreEntries heap P entries →
    AreEntries heap P (without probe entries)
without_are heap P probe [] h = tt
without_are {K} heap P probe (e ∷ es) h = by (probe e) (without_are heap P probe es h.1)
  where
    by : (r : Ordering) → AreEntries heap P (without probe es) → AreEntries heap P (pick r (e ∷ es) es (e ∷ without probe es))
    by Less more = h
    by Equal more = h.1
    by Greater more = (h.0, more)

enter_are : {K : Type 0} (heap : Heap) (P : K → Type 0) (order : K → K → Ordering) (key : K) (object : ℕ) (entries : List (Entry K)) → P key →
    IsPointedAt heap object → AreEntries heap P entries → AreEntries heap P (enter (seek order key) (with_entry_object object) (entry_of key object) entries)
enter_are heap P order key object [] is at h = ((is, at), tt)
enter_are heap P order key object (e ∷ es) is at h = by (seek order key e) (enter_are heap P order key object es is at h.1)
  where
    by : (r : Ordering) → AreEntries heap P (enter (seek order key) (with_entry_object object) (entry_of key object) es) → AreEntries heap P (pick r (entry_of key object ∷ e ∷ es) (with_entry_object object e ∷ es)
        (e ∷ enter (seek order key) (with_entry_object object) (entry_of key object) es))
    by Less more = ((is, at), h)
    by Equal more = ((h.0.0, at), h.1)
    by Greater more = (h.0, more)

under_are : {K : Type 0} (heap : Heap) (P : K → Type 0) (order : K → K → Ordering) (key : K) (object : Option ℕ) (entries : List (Entry K)) → P key →
    MayBePointed heap object → AreEntries heap P entries → AreEntries heap P (with_under order key object entries)
under_are heap P order key None entries is at h = without_are heap P (seek order key) entries h
under_are heap P order key (Some object) entries is at h = enter_are heap P order key object entries is at h

found_are : {K : Type 0} (heap : Heap) (P : K → Type 0) (probe : Entry K → Ordering) (entries : List (Entry K)) → AreEntries heap P entries →
    MayBePointed heap (option_map (λ (entry : Entry K). entry.object) (find probe entries))
found_are heap P probe [] h = tt
found_are {K} heap P probe (e ∷ es) h = by (probe e) (found_are heap P probe es h.1)
  where
    by : (r : Ordering) → MayBePointed heap (option_map (λ (entry : Entry K). entry.object) (find probe es)) → MayBePointed heap (option_map (λ (entry : Entry K). entry.object) (pick r None (Some e) (find probe es)))
    by Less more = tt
    by Equal more = h.0.1
    by Greater more = more

abbrev MayBeEntry : {K : Type 0} → Heap → (K → Type 0) → Option (Entry K) → Type 0
MayBeEntry heap P None = Unit {0}
MayBeEntry heap P (Some entry) = P entry.key × IsPointedAt heap entry.object

above_are : {K : Type 0} (heap : Heap) (P : K → Type 0) (probe : Entry K → Ordering) (entries : List (Entry K)) → AreEntries heap P entries →
    MayBeEntry heap P (above probe entries)
above_are heap P probe [] h = tt
above_are heap P probe (e ∷ es) h = by (probe e) (above_are heap P probe es h.1)
  where
    by : (r : Ordering) → MayBeEntry heap P (above probe es) → MayBeEntry heap P (pick r (Some e) (above probe es) (above probe es))
    by Less more = h.0
    by Equal more = more
    by Greater more = more

next_are : {K : Type 0} (heap : Heap) (P : K → Type 0) (order : K → K → Ordering) (last : Option K) (entries : List (Entry K)) → AreEntries heap P entries →
    MayBeEntry heap P (next_of order last entries)
next_are heap P order None [] h = tt
next_are heap P order None (e ∷ es) h = h.0
next_are heap P order (Some key) entries h = above_are heap P (seek order key) entries h

-- Tables.

pub entered_typed : (heap : Heap) (key : Key) (object : Option ℕ) (table : Table) → IsKey key → MayBePointed heap object → IsTypedTable heap table →
    OnYield (IsTypedTable heap) (entered key object table)
unfolding entered
entered_typed heap (string_key bytes) None without_keys is at h = tt
entered_typed heap (string_key bytes) (Some object) without_keys is at h = ((is, at), tt)
entered_typed heap (string_key bytes) object (by_strings entries) is at h = under_are heap (λ (b : List ℕ). is_string b ≡ true) order_of bytes object entries is at h
entered_typed heap (string_key bytes) object (by_ints entries) is at h = tt
entered_typed heap (int_key value) None without_keys is at h = tt
entered_typed heap (int_key value) (Some object) without_keys is at h = ((is, at), tt)
entered_typed heap (int_key value) object (by_ints entries) is at h = under_are heap (λ (z : ℤ). is_int z ≡ true) int_cmp value object entries is at h
entered_typed heap (int_key value) object (by_strings entries) is at h = tt

pub looked_typed : (heap : Heap) (key : Key) (table : Table) → IsTypedTable heap table → OnYield (MayBePointed heap) (looked_up key table)
unfolding looked_up
looked_typed heap (string_key bytes) without_keys h = tt
looked_typed heap (string_key bytes) (by_strings entries) h = found_are heap (λ (b : List ℕ). is_string b ≡ true) (seek order_of bytes) entries h
looked_typed heap (string_key bytes) (by_ints entries) h = tt
looked_typed heap (int_key value) without_keys h = tt
looked_typed heap (int_key value) (by_ints entries) h = found_are heap (λ (z : ℤ). is_int z ≡ true) (seek int_cmp value) entries h
looked_typed heap (int_key value) (by_strings entries) h = tt

-- a key that is found is a string, or an int, as is asked for
abbrev pub IsKeyOf : Bool → Key → Type 0
IsKeyOf true (string_key bytes) = is_string bytes ≡ true
IsKeyOf false (int_key value) = is_int value ≡ true
IsKeyOf strings key = ⊥

abbrev pub MayBeFound : Bool → Heap → Option Found → Type 0
MayBeFound strings heap None = Unit {0}
MayBeFound strings heap (Some found) = IsKeyOf strings found.key × IsPointedAt heap found.object

found_string : (heap : Heap) (entry : Option (Entry (List ℕ))) → MayBeEntry heap (λ (b : List ℕ). is_string b ≡ true) entry →
    MayBeFound true heap (option_map (found_of string_key) entry)
found_string heap None h = tt
found_string heap (Some entry) h = h

found_int : (heap : Heap) (entry : Option (Entry ℤ)) → MayBeEntry heap (λ (z : ℤ). is_int z ≡ true) entry → MayBeFound false heap (option_map (found_of int_key) entry)
found_int heap None h = tt
found_int heap (Some entry) h = h

next_typed : (strings : Bool) (heap : Heap) (last : Option Key) (table : Table) → IsTypedTable heap table →
    OnYield (MayBeFound strings heap) (next_in_table strings last table)
unfolding next_string next_int
next_typed true heap last without_keys h =
    found_string heap (next_of order_of (last_string last) []) (next_are heap (λ (b : List ℕ). is_string b ≡ true) order_of (last_string last) [] tt)
next_typed true heap last (by_strings entries) h =
    found_string heap (next_of order_of (last_string last) entries) (next_are heap (λ (b : List ℕ). is_string b ≡ true) order_of (last_string last) entries h)
next_typed true heap last (by_ints entries) h = tt
next_typed false heap last without_keys h =
    found_int heap (next_of int_cmp (last_int last) []) (next_are heap (λ (z : ℤ). is_int z ≡ true) int_cmp (last_int last) [] tt)
next_typed false heap last (by_ints entries) h =
    found_int heap (next_of int_cmp (last_int last) entries) (next_are heap (λ (z : ℤ). is_int z ≡ true) int_cmp (last_int last) entries h)
next_typed false heap last (by_strings entries) h = tt

-- what goes on with the table that a value denotes
pub on_table : (kind : Kind) {B : Type 0} (P : B → Type 0) (heap : Heap) (v : Value) (next : Table → Attempt B) → IsTypedHeap kind.asked heap →
    ((id : ℕ) (table : Table) → v ≡ Pointer id → object_at heap id ≡ Some (Keyed table) → IsTypedTable heap table × kind.asked.tabled table → OnYield P (next table)) →
    OnYield P (then_try (table_of heap v) next)
unfolding table_of
on_table kind P heap Nil next typed h = tt
on_table kind P heap (Pointer id) next typed h = of (object_at heap id) refl
  where
    of : (found : Option Object) → object_at heap id ≡ found → OnYield P (then_try (table_in found) next)
    of None e = tt
    of (Some (Structure class fields)) e = tt
    of (Some (Elements ty low elements)) e = tt
    of (Some (Scope text parent names)) e = tt
    of (Some (Keyed table)) e = h id table refl e (typed id (Keyed table) e)
on_table kind P heap (Num z) next typed h = tt
on_table kind P heap (Flag b) next typed h = tt
on_table kind P heap (Text bytes) next typed h = tt
on_table kind P heap (Vector id) next typed h = tt
on_table kind P heap (Procedure does scope) next typed h = tt
on_table kind P heap Nothing next typed h = tt

pub next_key_typed : (kind : Kind) (strings : Bool) (heap : Heap) (v : Value) (last : Option Key) → IsTypedHeap kind.asked heap →
    OnYield (MayBeFound strings heap) (next_key strings heap v last)
unfolding next_key
next_key_typed kind strings heap v last typed =
    on_table kind (MayBeFound strings heap) heap v (next_in_table strings last) typed (λ id table v_is is of. next_typed strings heap last table of.0)

-- a table with other entries
pub table_put_typed : (kind : Kind) (heap : Heap) (id : ℕ) (old new : Table) → object_at heap id ≡ Some (Keyed old) → IsTypedHeap kind.asked heap → IsTypedTable heap new → kind.asked.tabled new →
    IsNext kind heap (set heap id (Keyed new))
table_put_typed kind heap id old new was typed h tabled =
    (grows_set heap id (Keyed old) (Keyed new) was tt, typed_set kind heap id (Keyed old) (Keyed new) was tt typed (h, tabled))
