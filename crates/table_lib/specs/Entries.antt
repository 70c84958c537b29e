-- What is done to a table where a value is entered under a key, or a key is taken out.
use Rattle.std.specs.Prelude.{◌≡◌, ◌≢◌, ◌⊎◌, ℕ, ◌-◌, ◌^◌, ◌≤◌, ◌<◌, List, [], length, Option, Some, None, Result, MatchResult}
use Rattle.std.specs.List.{AllByRecursion}
use Rattle.table_nodes.specs.heap_places.ps_outside.Outside.{Outside, SameContents}
use Rattle.table_nodes.specs.heap_places.obj_layout.Stored.{Space}
use Rattle.table_nodes.specs.heap_places.obj_layout.declared.kind.Kind.TheVariants.{Node}
use Rattle.table_nodes.specs.heap_places.obj_layout.declared.reference.Reference.{Reference}
use Rattle.table_nodes.specs.heap_places.swizzle.Heap.{Heap, IsHeap, IsHeld, IsListed, header_at, num_at, ref_at, reference_to, top_of}
use Rattle.table_nodes.specs.heap_places.swizzle.Joint.{Shown, shown_at, name_at, name_of}
use Rattle.table_nodes.specs.heap_places.swizzle.Reading.{joint}
use Rattle.table_nodes.specs.heap_places.Shapes.{slot_of}
use Rattle.table_nodes.specs.heap_places.heap_texts.declared.fault.OpFault.{OpFault}
use Rattle.table_nodes.specs.heap_places.heap_texts.declared.fault.OpFault.TheVariants.{Trap, Swizzle}
use Rattle.table_nodes.specs.heap_places.swizzle.declared.fault.SwizzleFault.{SwizzleFault}
use Rattle.table_nodes.specs.avl_trees.Rising.{enter, without}
use Rattle.table_nodes.specs.avl_trees.Trees.{Tree, items}
use Rattle.table_nodes.specs.avl_trees.Standing.{IsApart, seek, put, fresh_item}
use Rattle.table_nodes.specs.node_rows.Keys.{Keys, KeyOf, order_by}
use Rattle.table_nodes.specs.Bringing.{NoneCome}
use Rattle.table_nodes.specs.Fetching.{Fetches}
use Rattle.table_nodes.specs.Hanging.{AreHung}
use Rattle.table_nodes.specs.Nodes.{IsChanged, IsNode, IsSingle, IsFetchFault, OthersStay}
use Rattle.table_nodes.specs.node_rows.Nodes.{I}
use Rattle.table_nodes.specs.Steps.{Place, IsPlace, Holds}
use Rattle.table_nodes.specs.Sparing.{IsOfKind, Lasts}
use Rattle.table_nodes.specs.Entering.{IsEnterFault}
use Rattle.table_lib.specs.Tables.{HasKeys, HasPairs, IsTable, IsUnused}
use Rattle.table_lib.specs.Operations.{Uses, IsOpFetchFault}

-- an object that a call on a table may change: the table, or a node
abbrev pub IsOpen : ℕ → Heap → ℕ → Type 0
IsOpen at heap j = (j ≡ at) ⊎ IsNode heap j

-- What a call on a table spares, whatever its nodes are: each object of the area lasts, and shows as it did, or it is the table or a node, and is noted as
-- assigned. None but these are noted that weren't, and all others keep their flags. Each object of the area keeps its home
-- and its third reference, a node's key text. What is seen of an object that is
-- neither stays, and each object that is seen keeps its kind; the area doesn't shrink, and the vault holds what it held.
pub record SparesBut (at : ℕ) (old new : Heap) (before after : Outside Space) : Type 0 where
  pub lasts : (j : ℕ) → IsHeld old j → Lasts old new j
  pub kept : (j : ℕ) → IsHeld old j → (shown_at new j ≡ shown_at old j) ⊎ (IsOpen at new j × IsListed j new.assigned)
  pub noted : (j : ℕ) → IsListed j old.assigned → IsListed j new.assigned
  pub only : (j : ℕ) → IsListed j new.assigned → IsListed j old.assigned ⊎ IsOpen at new j
  pub others : IsSingle before → (n : Reference) (it : Shown) → it.kind ≢ Node → n ≢ name_at old at → joint old before n it → joint new after n it
  pub kinds : IsSingle before → (n : Reference) (it : Shown) → joint old before n it → IsOfKind new after n it.kind
  pub flags : (j : ℕ) → IsHeld old j → ((header_at new j).flags ≡ (header_at old j).flags) ⊎ IsOpen at new j
  pub homes : (j : ℕ) → IsHeld old j → num_at new j 0 ≡ num_at old j 0
  pub texts : (j : ℕ) → IsHeld old j → slot_of (shown_at new j) 2 ≡ slot_of (shown_at old j) 2
  pub size : new.size ≡ old.size
  pub top : top_of old ≤ top_of new
  pub contents : SameContents before after

-- no node has changed that hadn't
abbrev pub NoneChange : Heap → Heap → Type 0
NoneChange old new = (n : Reference) → IsChanged new n → IsChanged old n

-- A table's words were written, and it was noted as assigned; its home stays, and all else is seen as it was.
pub record WritesTable (ks : Keys) (old new : Heap) (outside : Outside Space) (at : ℕ) (root : Option ℕ) (count : ℕ) : Type 0 where
  pub keys : HasKeys ks new at
  pub count_is : num_at new at 2 ≡ count
  pub root_is : name_of new (ref_at new at 0) ≡ name_of new (reference_to root)
  pub home : num_at new at 0 ≡ num_at old at 0
  pub noted : IsListed at new.assigned
  pub heap : IsHeap new
  pub holds : Holds old new
  pub lasts : (j : ℕ) → IsHeld old j → Lasts old new j
  pub others : IsSingle outside → OthersStay old new outside at
  pub steady : NoneChange old new

-- A table without keys was noted as assigned, and stays one; all is seen as it was.
pub record MarksTable (old new : Heap) (before after : Outside Space) (at : ℕ) : Type 0 where
  pub unused : IsUnused old at → IsUnused new at
  pub home : num_at new at 0 ≡ num_at old at 0
  pub noted : IsListed at new.assigned
  pub heap : IsHeap new
  pub single : IsSingle before → IsSingle after
  pub seen : IsSingle before → (n : Reference) (it : Shown) → joint old before n it → joint new after n it
  pub none : NoneCome old new
  pub steady : NoneChange old new

-- A table has this tree now, and is noted as assigned. Its home stays, and what is seen of all objects but it and these nodes; and none of these others that was
-- seen has changed that hadn't, of the nodes.
pub record HasNow (ks : Keys) (old new : Place) (at : ℕ) (is : List (I ks)) (t : Tree (I ks)) : Type 0 where
  pub table : IsTable ks new at t
  pub here : IsPlace new
  pub noted : IsListed at new.heap.assigned
  pub home : num_at new.heap at 0 ≡ num_at old.heap at 0
  pub others : (n : Reference) (it : Shown) → n ≢ name_at old.heap at → IsApart n is → joint old.heap old.outside n it → joint new.heap new.outside n it
  pub steady : (n : Reference) (it : Shown) → IsApart n is → joint old.heap old.outside n it → IsChanged new.heap n → IsChanged old.heap n

-- The pairs of a table are those that were, with this value under the key; a new pair stands under a name that had no object. What is new in the area came from
-- the vault or was made; and where the nodes hung together, they do so still.
pub record EntersPair (ks : Keys) (old new : Place) (at : ℕ) (is : List (I ks)) (key : KeyOf ks) (value : Reference) : Type 0 where
  pub tree : Tree (I ks)
  pub fresh : Reference
  pub is_fresh : (it : Shown) → joint old.heap old.outside fresh it → ⊥
  pub pairs : items tree ≡ enter (seek (order_by ks) key) (put value) (fresh_item fresh key value) is
  pub now : HasNow ks old new at is tree
  pub fetched : Fetches ks old.heap new.heap old.outside
  pub hung : (t : Tree (I ks)) → HasPairs ks old at t → AreHung old.heap t → AreHung new.heap tree

-- The pairs of a table are those that were, without the key. The area and the nodes are as with a key that is entered.
pub record TakesKey (ks : Keys) (old new : Place) (at : ℕ) (is : List (I ks)) (key : KeyOf ks) : Type 0 where
  pub tree : Tree (I ks)
  pub pairs : items tree ≡ without (seek (order_by ks) key) is
  pub now : HasNow ks old new at is tree
  pub fetched : Fetches ks old.heap new.heap old.outside
  pub hung : (t : Tree (I ks)) → HasPairs ks old at t → AreHung old.heap t → AreHung new.heap tree

-- no node of the first is one of the second
abbrev pub AreApart : (other ks : Keys) → List (I other) → List (I ks) → Type 0
AreApart other ks vs is = AllByRecursion (λ a. IsApart a.name is) vs

-- A table that never had a key has none now, and is noted as assigned. No object came, and no node has changed that hadn't.
pub record StaysUnused (old new : Place) (at : ℕ) : Type 0 where
  pub unused : IsUnused new.heap at
  pub here : IsPlace new
  pub noted : IsListed at new.heap.assigned
  pub home : num_at new.heap at 0 ≡ num_at old.heap at 0
  pub others : (n : Reference) (it : Shown) → joint old.heap old.outside n it → joint new.heap new.outside n it
  pub none : NoneCome old.heap new.heap
  pub steady : NoneChange old.heap new.heap

-- a reference's object couldn't be fetched, or there was no room for a node
abbrev pub IsOpEnterFault : Heap → Outside Space → OpFault → Type 0
IsOpEnterFault heap outside (Trap trap) = ⊥
IsOpEnterFault heap outside (Swizzle fault) = IsEnterFault heap outside fault

-- A value was put under a key into the tree of a table.
abbrev pub PutsPair : {T : Type 0} → (ks : Keys) → Place → Place → ℕ → KeyOf ks → Reference → Result T SwizzleFault → Type 0
PutsPair ks old new at key value result = (t : Tree (I ks)) → IsPlace old → HasPairs ks old at t → length (items t) < 2 ^ 64 - 1
    → MatchResult result (λ done. EntersPair ks old new at (items t) key value) (IsEnterFault old.heap old.outside)

-- A key was taken out of the tree of a table.
abbrev pub TakesPair : {T : Type 0} → (ks : Keys) → Place → Place → ℕ → KeyOf ks → Result T SwizzleFault → Type 0
TakesPair ks old new at key result = (t : Tree (I ks)) → IsPlace old → HasPairs ks old at t → MatchResult result (λ done. TakesKey ks old new at (items t) key) (IsFetchFault old.heap old.outside)

-- What entering a value under a key answers and does; with no value the key is taken out. A table that never had a key gets the kind of the first that
-- is entered with a value.
abbrev pub Enters : {T : Type 0} → (ks : Keys) → Place → Place → Option ℕ → KeyOf ks → Option ℕ → Result T OpFault → Type 0
Enters ks old new table key (Some to) result = Uses ks old table
    (λ r. (at : ℕ) → table ≡ Some at → IsPlace old → MatchResult r (λ done. EntersPair ks old new at [] key (name_at old.heap to)) (IsOpEnterFault old.heap old.outside))
    (λ at t r. IsPlace old → length (items t) < 2 ^ 64 - 1 → MatchResult r (λ done. EntersPair ks old new at (items t) key (name_at old.heap to)) (IsOpEnterFault old.heap old.outside)) result
Enters ks old new table key None result = Uses ks old table
    (λ r. (at : ℕ) → table ≡ Some at → IsPlace old → MatchResult r (λ done. StaysUnused old new at) (λ fault. ⊥))
    (λ at t r. IsPlace old → MatchResult r (λ done. TakesKey ks old new at (items t) key) (IsOpFetchFault old.heap old.outside)) result
