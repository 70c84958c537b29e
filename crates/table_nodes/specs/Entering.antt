-- What entering a key into a table's tree does to its nodes.
use Rattle.std.specs.Prelude.{◌≡◌, ◌⊎◌, ℕ, ◌+◌, ◌≤◌, ◌<◌, Bool, true, false, Option, Some, None, Result, IfOk, MatchResult}
use Rattle.std.specs.declared.cmp.Ordering.TheVariants.{Less, Greater}
use Rattle.heap_places.specs.ps_outside.Outside.{Outside}
use Rattle.heap_places.specs.obj_layout.Stored.{Space}
use Rattle.heap_places.specs.obj_layout.declared.reference.Reference.{Reference}
use Rattle.heap_places.specs.obj_layout.declared.reference.Reference.TheVariants.{Local}
use Rattle.heap_places.specs.swizzle.declared.fault.SwizzleFault.{SwizzleFault}
use Rattle.heap_places.specs.swizzle.declared.fault.SwizzleFault.TheVariants.{AreaFull, Vault}
use Rattle.heap_places.specs.swizzle.Heap.{Heap, IsHeap, top_of}
use Rattle.heap_places.specs.swizzle.Joint.{Shown, name_at}
use Rattle.heap_places.specs.swizzle.Changes.{Within}
use Rattle.heap_places.specs.swizzle.Reading.{joint}
use Rattle.heap_places.specs.swizzle.Touch.{Keeps}
use Rattle.avl_trees.specs.Trees.{Tree, node, height, items, insert, lookup}
use Rattle.avl_trees.specs.Standing.{Row, Stands, IsRising, IsWritten, root_of, seek, put, fresh_item}
use Rattle.node_rows.specs.Keys.{Keys, KeyOf, order_by}
use Rattle.node_rows.specs.Nodes.{Seat, I}
use Rattle.table_nodes.specs.Nodes.{IsNode, IsNamed, IsSteady, IsLinked, IsSingle, IsFetchFault, OthersStay, rows_in}
use Rattle.table_nodes.specs.Steps.{Place, IsPlace, StandsAt, rows_of}
use Rattle.table_nodes.specs.Fetching.{Fetches}
use Rattle.table_nodes.specs.Searching.{IsTree}
use Rattle.table_nodes.specs.Spans.{IsWithin}
use Rattle.table_nodes.specs.Wings.{IsLeftWing, IsRightWing}
use Rattle.table_nodes.specs.declared.span.Span.{Span}
use Rattle.table_nodes.specs.declared.enter.Entered.{Entered}
use Rattle.table_nodes.specs.declared.opening.Opened.{Opened}

-- A node was made with a key and a value, without sides, under a name that had no object; all else is seen as it was, and no other object came into the area.
pub record Makes (ks : Keys) (old new : Heap) (outside : Outside Space) (at : ℕ) (key : KeyOf ks) (value : Reference) : Type 0 where
  pub there : rows_in ks new outside (Local at) (record { left = None; right = None; entry = record { key = key; value = value }; height = 1 })
  pub fresh : (it : Shown) → joint old outside (Local at) it → ⊥
  pub seen : Within (joint old outside) (joint new outside)
  pub rows : (other : Keys) (n : Reference) (row : Seat other) → rows_in other old outside n row → rows_in other new outside n row
  pub here : IsNamed new at (Local at)
  pub nodes : (j : ℕ) → IsNode old j → IsNode new j
  pub named : (j : ℕ) (n : Reference) → IsNamed old j n → IsNamed new j n
  pub heap : IsHeap new
  pub keeps : Keeps old new
  pub fetched : Fetches ks old new outside

-- the row with another value
abbrev pub with_value : {K : Type 0} → Reference → Row Reference K Reference → Row Reference K Reference
with_value value row = record { left = row.left; right = row.right; entry = record { key = row.entry.key; value = value }; height = row.height }

-- A node was given another value.
pub record Puts (old new : Heap) (outside : Outside Space) (at value : ℕ) : Type 0 where
  pub written : (ks : Keys) (n : Reference) (row : Seat ks) → IsSingle outside → IsNamed old at n → rows_in ks old outside n row
      → IsWritten (rows_in ks old outside) n (with_value (name_at old value) row) (rows_in ks new outside)
  pub nodes : (j : ℕ) → IsNode old j → IsNode new j
  pub named : (j : ℕ) (n : Reference) → IsNamed old j n → IsNamed new j n
  pub heap : IsHeap new
  pub others : IsSingle outside → OthersStay old new outside at
  pub steady : IsSteady old new at

-- how a key stands to a node, and the node's sides
pub record IsOpened (ks : Keys) (heap : Heap) (key : KeyOf ks) (x : Tree (I ks)) (b : I ks) (y : Tree (I ks)) (opened : Opened) : Type 0 where
  pub order : opened.order ≡ order_by ks key b.entry.key
  pub left : IsLinked heap opened.left (root_of x)
  pub right : IsLinked heap opened.right (root_of y)
  pub left_keys : opened.order ≡ Less → IsWithin ks heap opened.span (items x)
  pub right_keys : opened.order ≡ Greater → IsWithin ks heap opened.span (items y)

abbrev pub OpensAt : (ks : Keys) → Place → Heap → ℕ → KeyOf ks → Span → Result Opened SwizzleFault → Type 0
OpensAt ks old new at key span result = (x : Tree (I ks)) (b : I ks) (y : Tree (I ks)) → Stands (rows_of ks old) (node x b y) → IsNamed old.heap at b.name
    → IsRising (order_by ks) (node x b y) → IsWithin ks old.heap span (items (node x b y)) → MatchResult result (IsOpened ks new key x b y) (IsFetchFault old.heap old.outside)

-- The pair was put into the tree, where the key was new under a name that had no object. What is new in the area came from the vault or was made.
-- Where the tree has grown, what a turn above looks at is known.
pub record Enters (ks : Keys) (old new : Place) (t : Tree (I ks)) (key : KeyOf ks) (value : Reference) (entered : Entered) : Type 0 where
  pub fresh : Reference
  pub is_fresh : (it : Shown) → joint old.heap old.outside fresh it → ⊥
  pub stands : StandsAt ks old new t (insert (seek (order_by ks) key) (put value) (fresh_item fresh key value) t) entered.root
  pub fetched : Fetches ks old.heap new.heap old.outside
  pub wing : height (insert (seek (order_by ks) key) (put value) (fresh_item fresh key value) t) ≡ height t + 1
      → IsLeftWing new.heap entered.wing (insert (seek (order_by ks) key) (put value) (fresh_item fresh key value) t) × IsRightWing new.heap entered.wing (insert (seek (order_by ks) key) (put value) (fresh_item fresh key value) t)

-- there was no room for the 11 words of a node, in this area or as it was left by touches
abbrev pub IsNoRoom : Heap → SwizzleFault → Type 0
IsNoRoom heap (AreaFull top wanted size) = (top_of heap ≤ top) × (size ≡ heap.size) × (wanted ≡ 11) × (size < top + wanted)
IsNoRoom heap (Vault fault) = ⊥

-- Why an enter into a tree that stands failed: a reference's object couldn't be fetched, or there was no room for a node.
abbrev pub IsEnterFault : Heap → Outside Space → SwizzleFault → Type 0
IsEnterFault heap outside fault = IsFetchFault heap outside fault ⊎ IsNoRoom heap fault

abbrev pub EntersAt : (ks : Keys) → Place → Place → Option ℕ → ℕ → KeyOf ks → Span → Reference → Result Entered SwizzleFault → Type 0
EntersAt ks old new root bound key span value result = (t : Tree (I ks)) → IsPlace old → IsTree ks old root t → IsWithin ks old.heap span (items t) → height t < bound
    → MatchResult result (λ entered. Enters ks old new t key value entered) (IsEnterFault old.heap old.outside)

-- the tree hasn't the key
abbrev pub is_missing : {A : Type 0} → Option A → Bool
is_missing None = true
is_missing (Some a) = false

-- It is told whether the key was new to the tree.
abbrev pub IsCountedAt : (ks : Keys) → Place → Option ℕ → ℕ → KeyOf ks → Span → Result Entered SwizzleFault → Type 0
IsCountedAt ks old root bound key span result = (t : Tree (I ks)) → IsTree ks old root t → IsWithin ks old.heap span (items t) → height t < bound → IfOk result (λ entered. entered.made ≡ is_missing (lookup (seek (order_by ks) key) t))
