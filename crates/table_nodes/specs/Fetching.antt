-- What came into the area while a tree was read or changed.
use Rattle.std.specs.Prelude.{◌≡◌, ◌⊎◌, ℕ, ◌≤◌, ◌<◌, List, length, Option, None, Result, OnOk}
use Rattle.heap_places.specs.ps_outside.Outside.{Outside}
use Rattle.heap_places.specs.obj_layout.Stored.{Space}
use Rattle.heap_places.specs.obj_layout.declared.reference.Reference.{Reference}
use Rattle.heap_places.specs.obj_layout.declared.reference.Reference.TheVariants.{Nil}
use Rattle.heap_places.specs.swizzle.declared.fault.SwizzleFault.{SwizzleFault}
use Rattle.heap_places.specs.swizzle.Changes.{IsKnown}
use Rattle.heap_places.specs.swizzle.Heap.{Heap, IsHeld, header_at, local_of}
use Rattle.heap_places.specs.swizzle.Joint.{shown_at, shown_words}
use Rattle.heap_places.specs.Shapes.{slot_of}
use Rattle.avl_trees.specs.Trees.{Tree, height, items, node}
use Rattle.avl_trees.specs.Standing.{Stands, root_of}
use Rattle.node_rows.specs.Keys.{Keys, by_ints}
use Rattle.node_rows.specs.Nodes.{Seat, I}
use Rattle.table_nodes.specs.Nodes.{IsNode, IsNamed, IsLinked, IsSide, IsStored, seen, side_of}
use Rattle.table_nodes.specs.Searching.{AreSeen, IsTree}
use Rattle.table_nodes.specs.Sparing.{IsNoted}
use Rattle.table_nodes.specs.Steps.{Place, rows_of}

-- An object of the area came from the vault, which has words under its PID: it has their kind, their counts and their third reference, and it shows them, or it
-- is a node that is noted as assigned.
pub record Came (new : Heap) (before : Outside Space) (at : ℕ) : Type 0 where
  pub stored : 1 ≤ (header_at new at).pid
  pub words : List ℕ
  pub there : IsStored before (header_at new at).pid words
  pub kind : (header_at new at).kind ≡ (shown_words words).kind
  pub refs : (header_at new at).refs ≡ length (shown_words words).refs
  pub nums : (header_at new at).nums ≡ length (shown_words words).nums
  pub bytes : (header_at new at).bytes ≡ (shown_words words).bytes
  pub text : slot_of (shown_at new at) 2 ≡ slot_of (shown_words words) 2
  pub shown : (shown_at new at ≡ shown_words words) ⊎ IsNoted new at

-- A node was made: it isn't stored and has no bytes, and with an int key it has no key text.
pub record IsNew (ks : Keys) (new : Heap) (at : ℕ) : Type 0 where
  pub node : IsNode new at
  pub unstored : (header_at new at).pid ≡ 0
  pub bytes : (header_at new at).bytes ≡ 0
  pub plain : ks ≡ by_ints → slot_of (shown_at new at) 2 ≡ Nil

-- each object that is new in the area came from the vault, or is a node that was made
abbrev pub Fetches : Keys → Heap → Heap → Outside Space → Type 0
Fetches ks old new before = (at : ℕ) → IsHeld new at → IsHeld old at ⊎ (Came new before at ⊎ IsNew ks new at)

-- An object of the area came from the vault, which has words under its PID that it shows; no object of the area had that PID before.
pub record Arrived (old new : Heap) (before : Outside Space) (at : ℕ) : Type 0 where
  pub stored : 1 ≤ (header_at new at).pid
  pub away : local_of old (header_at new at).pid ≡ None
  pub words : List ℕ
  pub there : IsStored before (header_at new at).pid words
  pub shown : shown_at new at ≡ shown_words words

-- each object that is new in the area came from the vault: nothing was made
abbrev pub Arrives : Heap → Heap → Outside Space → Type 0
Arrives old new before = (at : ℕ) → IsHeld new at → IsHeld old at ⊎ Arrived old new before at

-- What a reading fetches, where it is answered: of a node that stands a side, the key, or the value, if that is seen.

abbrev pub FetchesSide : {T : Type 0} → Place → Heap → ℕ → ℕ → Result T SwizzleFault → Type 0
FetchesSide old new at slot result = (ks : Keys) (n : Reference) (row : Seat ks) → IsNamed old.heap at n → rows_of ks old n row → IsSide ks old.heap old.outside (side_of slot row)
    → OnOk result (Arrives old.heap new old.outside)

abbrev pub FetchesKey : {T : Type 0} → (ks : Keys) → Place → Heap → ℕ → Result T SwizzleFault → Type 0
FetchesKey ks old new at result = (n : Reference) (row : Seat ks) → IsNamed old.heap at n → rows_of ks old n row → OnOk result (Arrives old.heap new old.outside)

abbrev pub FetchesValue : {T : Type 0} → Place → Heap → ℕ → Result T SwizzleFault → Type 0
FetchesValue old new at result = (ks : Keys) (n : Reference) (row : Seat ks) → IsNamed old.heap at n → rows_of ks old n row → IsKnown (seen old.heap old.outside) row.entry.value
    → OnOk result (Arrives old.heap new old.outside)

-- What a step of a search fetches at a node of a tree that stands, and the whole search in a tree that is lower than its bound; where it reads a value,
-- the tree's values are seen.

abbrev pub FetchesStep : {T : Type 0} → (ks : Keys) → Place → Heap → ℕ → Result T SwizzleFault → Type 0
FetchesStep ks old new at result = (x : Tree (I ks)) (b : I ks) (y : Tree (I ks)) → Stands (rows_of ks old) (node x b y) → IsNamed old.heap at b.name → OnOk result (Arrives old.heap new old.outside)

abbrev pub FetchesWay : {T : Type 0} → (ks : Keys) → Place → Heap → Option ℕ → ℕ → Result T SwizzleFault → Type 0
FetchesWay ks old new root bound result = (t : Tree (I ks)) → IsTree ks old root t → height t < bound → OnOk result (Arrives old.heap new old.outside)

abbrev pub FetchesFound : {T : Type 0} → (ks : Keys) → Place → Heap → Option ℕ → ℕ → Result T SwizzleFault → Type 0
FetchesFound ks old new root bound result = (t : Tree (I ks)) → IsTree ks old root t → height t < bound → AreSeen ks old.heap old.outside (items t) → OnOk result (Arrives old.heap new old.outside)

-- What a change fetches before it writes, where it is answered: of a tree that stands the nodes below its root.

abbrev pub FetchesAt : {T : Type 0} → (ks : Keys) → Place → Heap → ℕ → Result T SwizzleFault → Type 0
FetchesAt ks old new at result = (x : Tree (I ks)) (b : I ks) (y : Tree (I ks)) → Stands (rows_of ks old) (node x b y) → IsNamed old.heap at b.name → OnOk result (Fetches ks old.heap new old.outside)

abbrev pub FetchesFrom : {T : Type 0} → Place → Heap → Option ℕ → Result T SwizzleFault → Type 0
FetchesFrom old new root result = (ks : Keys) (t : Tree (I ks)) → Stands (rows_of ks old) t → IsLinked old.heap root (root_of t) → OnOk result (Fetches ks old.heap new old.outside)
