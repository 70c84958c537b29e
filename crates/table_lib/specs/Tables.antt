-- A table: what its words tell, and the tree of its nodes.
use Rattle.std.specs.Prelude.{◌≡◌, ℕ, length}
use Rattle.std.specs.List.{AllByRecursion}
use Rattle.table_nodes.specs.heap_places.obj_layout.declared.kind.Kind.TheVariants.{Table}
use Rattle.table_nodes.specs.heap_places.obj_layout.declared.reference.Reference.TheVariants.{Nil}
use Rattle.table_nodes.specs.heap_places.swizzle.Heap.{Heap, IsHeld, header_at, ref_at, num_at}
use Rattle.table_nodes.specs.heap_places.swizzle.Joint.{name_of}
use Rattle.table_nodes.specs.avl_trees.Trees.{Tree, items, IsBalanced}
use Rattle.table_nodes.specs.avl_trees.Standing.{Stands, IsRising, root_of}
use Rattle.table_nodes.specs.node_rows.Keys.{Keys, by_ints, by_texts, order_by}
use Rattle.table_nodes.specs.node_rows.Nodes.{link_of, I, HasValue}
use Rattle.table_nodes.specs.Steps.{Place, rows_of}

-- the number of a table's kind of keys; 0 is that of none
abbrev pub key_number : Keys → ℕ
key_number by_texts = 1
key_number by_ints = 2

-- An object of the area that has a table's shape: a reference, its root, and three number words, its home, its kind of keys and the number of its pairs.
pub record IsTableAt (heap : Heap) (at : ℕ) : Type 0 where
  pub held : IsHeld heap at
  pub kind : (header_at heap at).kind ≡ Table
  pub refs : (header_at heap at).refs ≡ 1
  pub nums : (header_at heap at).nums ≡ 3

-- a table that has had keys of this kind
pub record HasKeys (ks : Keys) (heap : Heap) (at : ℕ) : Type 0 where
  pub shape : IsTableAt heap at
  pub kind : num_at heap at 1 ≡ key_number ks

-- a table that never had a key
pub record IsUnused (heap : Heap) (at : ℕ) : Type 0 where
  pub shape : IsTableAt heap at
  pub kind : num_at heap at 1 ≡ 0
  pub count : num_at heap at 2 ≡ 0
  pub root : ref_at heap at 0 ≡ Nil

-- From the root of an object that has a table's shape on a search tree stands, and its words tell how many pairs there are.
pub record HasPairs (ks : Keys) (p : Place) (at : ℕ) (t : Tree (I ks)) : Type 0 where
  pub shape : IsTableAt p.heap at
  pub count : num_at p.heap at 2 ≡ length (items t)
  pub root : link_of (name_of p.heap (ref_at p.heap at 0)) ≡ root_of t
  pub stands : Stands (rows_of ks p) t
  pub rising : IsRising (order_by ks) t
  pub balanced : IsBalanced t
  pub values : AllByRecursion HasValue (items t)

-- From the table's root on a search tree stands, of exactly its pairs, with right heights that differ by at most one between siblings; its words tell
-- the kind of the keys and how many pairs there are.
pub record IsTable (ks : Keys) (p : Place) (at : ℕ) (t : Tree (I ks)) : Type 0 where
  pub keys : HasKeys ks p.heap at
  pub count : num_at p.heap at 2 ≡ length (items t)
  pub root : link_of (name_of p.heap (ref_at p.heap at 0)) ≡ root_of t
  pub stands : Stands (rows_of ks p) t
  pub rising : IsRising (order_by ks) t
  pub balanced : IsBalanced t
  pub values : AllByRecursion HasValue (items t)
