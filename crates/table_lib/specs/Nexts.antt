-- What the search for a table's next key answers.
use Rattle.std.specs.Prelude.{◌≡◌, ◌≢◌, ℕ, ℤ, List, Option, Some, None, Result, Ok, MatchResult, OnOk}
use Rattle.std.specs.declared.cmp.Ordering.{Ordering}
use Rattle.std.specs.declared.cmp.Ordering.TheVariants.{Less}
use Rattle.table_nodes.specs.heap_places.obj_layout.declared.reference.Reference.TheVariants.{Nil}
use Rattle.table_nodes.specs.heap_places.swizzle.declared.fault.SwizzleFault.{SwizzleFault}
use Rattle.table_nodes.specs.heap_places.swizzle.Heap.{Heap, IsHeld}
use Rattle.table_nodes.specs.heap_places.swizzle.Joint.{name_at}
use Rattle.table_nodes.specs.heap_places.swizzle.Text.{text_at}
use Rattle.table_nodes.specs.heap_places.heap_texts.declared.fault.OpFault.{OpFault}
use Rattle.table_nodes.specs.avl_trees.Rising.{above}
use Rattle.table_nodes.specs.avl_trees.Trees.{items}
use Rattle.table_nodes.specs.avl_trees.Standing.{Has}
use Rattle.table_nodes.specs.node_rows.Keys.{Keys, by_ints, by_texts, KeyOf, order_by}
use Rattle.table_nodes.specs.heap_places.swizzle.Changes.{IsKnown}
use Rattle.table_nodes.specs.Nodes.{IsNamed, IsFetchFault, seen}
use Rattle.table_nodes.specs.Fetching.{Arrives}
use Rattle.table_nodes.specs.Searching.{AreSeen}
use Rattle.table_nodes.specs.Sought.{IsTextHeld}
use Rattle.table_nodes.specs.node_rows.Nodes.{I}
use Rattle.table_nodes.specs.Steps.{Place, rows_of}
use Rattle.table_lib.specs.Operations.{Uses, IsOpFetchFault}

-- where a key stands, to go on after it; before the first one every key is still above
abbrev pub after_key : (ks : Keys) → Option (KeyOf ks) → I ks → Ordering
after_key ks None a = Less
after_key ks (Some key) a = order_by ks key a.entry.key

-- this is the node of the pair, in the area, or there is none
abbrev pub IsNodeOf : (ks : Keys) → Place → Option ℕ → Option (I ks) → Type 0
IsNodeOf ks p None None = Unit {0}
IsNodeOf ks p (Some node) (Some a) = IsNamed p.heap node a.name × Has (rows_of ks p) a × (a.entry.value ≢ Nil)
IsNodeOf ks p _ _ = ⊥

-- The node of the least key above is answered.
abbrev pub FindsNode : (ks : Keys) → Place → Place → Option ℕ → (I ks → Ordering) → Result (Option ℕ) OpFault → Type 0
FindsNode ks old new table probe result = Uses ks old table (λ r. r ≡ Ok None) (λ at t r. MatchResult r (λ found. IsNodeOf ks new found (above probe (items t))) (IsOpFetchFault old.heap old.outside)) result

-- the text of the key, and the object of the value
abbrev pub IsTextPair : Heap → ℕ × ℕ → I by_texts → Type 0
IsTextPair heap pair a = IsTextHeld heap pair.0 × (text_at heap pair.0 ≡ a.entry.key) × IsHeld heap pair.1 × (name_at heap pair.1 ≡ a.entry.value)

-- the int of the key, and the object of the value
abbrev pub IsIntPair : Heap → ℤ × ℕ → I by_ints → Type 0
IsIntPair heap pair a = (pair.0 ≡ a.entry.key) × IsHeld heap pair.1 × (name_at heap pair.1 ≡ a.entry.value)

-- what was read of a node's pair; its value isn't damaged where it is seen
abbrev pub ReadsPair : {P : Type 0} → (ks : Keys) → (P → I ks → Type 0) → Place → ℕ → Result P SwizzleFault → Type 0
ReadsPair ks is old node result = (a : I ks) → IsNamed old.heap node a.name → Has (rows_of ks old) a → a.entry.value ≢ Nil → MatchResult result (λ pair. is pair a) (λ fault. IsKnown (seen old.heap old.outside) a.entry.value → IsFetchFault old.heap old.outside fault)

-- What the reading of a node's pair fetches, where it is answered and the value is seen: all of it came from the vault.
abbrev pub FetchesPair : {P : Type 0} → (ks : Keys) → Place → Heap → ℕ → Result P SwizzleFault → Type 0
FetchesPair ks old new node result = (a : I ks) → IsNamed old.heap node a.name → Has (rows_of ks old) a → IsKnown (seen old.heap old.outside) a.entry.value → OnOk result (Arrives old.heap new old.outside)

-- the pair, or none
abbrev pub IsPairOf : {P A : Type 0} → (P → A → Type 0) → Option P → Option A → Type 0
IsPairOf is None None = Unit {0}
IsPairOf is (Some pair) (Some a) = is pair a
IsPairOf is _ _ = ⊥

-- The pair of the least key above is answered, none where there is none, or an object couldn't be fetched; where the values are seen, none is damaged.
abbrev pub FindsPair : {P : Type 0} → (ks : Keys) → (P → I ks → Type 0) → Place → Option ℕ → Option (KeyOf ks) → Result (Option P) OpFault → Type 0
FindsPair ks is old table after result = Uses ks old table (λ r. r ≡ Ok None) (λ at t r. MatchResult r (λ found. IsPairOf is found (above (after_key ks after) (items t))) (λ fault. AreSeen ks old.heap old.outside (items t) → IsOpFetchFault old.heap old.outside fault)) result

-- the string of a text of the area
abbrev pub string_of : Heap → Option ℕ → Option (List ℕ)
string_of heap None = None
string_of heap (Some text) = Some (text_at heap text)
