-- What the operations on tables answer.
use Rattle.std.specs.Prelude.{◌≡◌, ◌≢◌, ℕ, true, false, Option, Some, None, Result, Ok, Err, IfOk, OnOk, MatchResult}
use Rattle.table_nodes.specs.heap_places.ps_outside.Outside.{Outside}
use Rattle.table_nodes.specs.heap_places.obj_layout.Stored.{Space}
use Rattle.table_nodes.specs.heap_places.obj_layout.declared.kind.Kind.TheVariants.{Table}
use Rattle.table_nodes.specs.heap_places.swizzle.declared.fault.SwizzleFault.{SwizzleFault}
use Rattle.table_nodes.specs.heap_places.swizzle.Heap.{Heap, header_at}
use Rattle.table_nodes.specs.heap_places.heap_texts.declared.fault.OpFault.{OpFault}
use Rattle.table_nodes.specs.heap_places.heap_texts.declared.fault.OpFault.TheVariants.{Trap, Swizzle}
use Rattle.ps_base.specs.declared.trap.Trap.TheVariants.{Nil, WrongClass, KeyKind}
use Rattle.table_nodes.specs.avl_trees.Rising.{find}
use Rattle.table_nodes.specs.avl_trees.Trees.{Tree, items}
use Rattle.table_nodes.specs.avl_trees.Standing.{root_of, seek}
use Rattle.table_nodes.specs.node_rows.Keys.{Keys, KeyOf, order_by}
use Rattle.table_nodes.specs.Nodes.{IsLinked, IsFetchFault}
use Rattle.table_nodes.specs.node_rows.Nodes.{I}
use Rattle.table_nodes.specs.Steps.{Place}
use Rattle.table_nodes.specs.Fetching.{Arrives}
use Rattle.table_nodes.specs.Searching.{AreSeen, IsObject, value_of}
use Rattle.table_lib.specs.Tables.{IsTableAt, HasKeys, HasPairs, IsUnused, IsTable}
use Rattle.table_lib.specs.declared.words.Opened.{Opened}

-- a reference's object couldn't be fetched
abbrev pub IsOpFetchFault : Heap → Outside Space → OpFault → Type 0
IsOpFetchFault heap outside (Trap trap) = ⊥
IsOpFetchFault heap outside (Swizzle fault) = IsFetchFault heap outside fault

-- A table was opened for keys of a kind. Nil where there is none, WrongClass where the object is no table, KeyKind where its keys are of the other kind.
pub record Opens (ks : Keys) (heap : Heap) (table : Option ℕ) (result : Result Opened OpFault) : Type 0 where
  pub nil : table ≡ None → result ≡ Err (Trap Nil)
  pub class : (at : ℕ) → table ≡ Some at → (header_at heap at).kind ≢ Table → result ≡ Err (Trap WrongClass)
  pub other : (at : ℕ) (other : Keys) → other ≢ ks → table ≡ Some at → HasKeys other heap at → result ≡ Err (Trap KeyKind)
  pub same : (at : ℕ) → table ≡ Some at → HasKeys ks heap at → result ≡ Ok (record { at = at; used = true })
  pub unused : (at : ℕ) → table ≡ Some at → IsUnused heap at → result ≡ Ok (record { at = at; used = false })
  pub at_is : IfOk result (λ opened. table ≡ Some opened.at)
  pub shape : IfOk result (λ opened. IsTableAt heap opened.at)
  pub never : IfOk result (λ opened. opened.used ≡ false → IsUnused heap opened.at)

-- What an operation with a key of a kind answers: the traps, what a table that never had a key gives, and what a table with keys of this kind gives.
pub record Uses {T : Type 0} (ks : Keys) (p : Place) (table : Option ℕ) (unused : Result T OpFault → Type 0) (used : ℕ → Tree (I ks) → Result T OpFault → Type 0) (result : Result T OpFault) : Type 0 where
  pub nil : table ≡ None → result ≡ Err (Trap Nil)
  pub class : (at : ℕ) → table ≡ Some at → (header_at p.heap at).kind ≢ Table → result ≡ Err (Trap WrongClass)
  pub other : (at : ℕ) (other : Keys) (t : Tree (I other)) → other ≢ ks → table ≡ Some at → IsTable other p at t → result ≡ Err (Trap KeyKind)
  pub unused_is : (at : ℕ) → table ≡ Some at → IsUnused p.heap at → unused result
  pub used_is : (at : ℕ) (t : Tree (I ks)) → table ≡ Some at → IsTable ks p at t → used at t result

-- The root of a table is answered, or it couldn't be fetched.
abbrev pub ReadsRoot : Place → Heap → ℕ → Result (Option ℕ) SwizzleFault → Type 0
ReadsRoot old new at result = (ks : Keys) (t : Tree (I ks)) → HasPairs ks old at t → MatchResult result (λ root. IsLinked new root (root_of t)) (IsFetchFault old.heap old.outside)

-- What the reading of a root fetches, where it is answered.
abbrev pub FetchesRoot : {T : Type 0} → Place → Heap → ℕ → Result T SwizzleFault → Type 0
FetchesRoot old new at result = (ks : Keys) (t : Tree (I ks)) → HasPairs ks old at t → OnOk result (Arrives old.heap new old.outside)

-- What a reading of a table fetches, where it is answered: each object that is new in the area came from the vault, where the table never had a key, or where it
-- has keys of this kind and the values of its pairs are seen.
pub record FetchesUsed {T : Type 0} (ks : Keys) (old : Place) (new : Heap) (table : Option ℕ) (result : Result T OpFault) : Type 0 where
  pub unused : (at : ℕ) → table ≡ Some at → IsUnused old.heap at → OnOk result (Arrives old.heap new old.outside)
  pub used : (at : ℕ) (t : Tree (I ks)) → table ≡ Some at → IsTable ks old at t → AreSeen ks old.heap old.outside (items t) → OnOk result (Arrives old.heap new old.outside)

-- The value of the key is answered, none where the table hasn't the key, or an object couldn't be fetched; where the values are seen, none is damaged.
abbrev pub LooksUp : (ks : Keys) → Place → Heap → Option ℕ → KeyOf ks → Result (Option ℕ) OpFault → Type 0
LooksUp ks old new table key result = Uses ks old table (λ r. r ≡ Ok None)
    (λ at t r. MatchResult r (λ found. IsObject new found (value_of (find (seek (order_by ks) key) (items t)))) (λ fault. AreSeen ks old.heap old.outside (items t) → IsOpFetchFault old.heap old.outside fault)) result
