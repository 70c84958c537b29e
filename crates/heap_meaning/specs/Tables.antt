-- What is seen of a table: its words, and the nodes of its search tree, whose pairs are the entries of a table of the heap. Nodes have no number: the
-- heap has tables and no nodes.
use Rattle.std.specs.Prelude.{◌≡◌, ℕ, List, [], ◌∷◌, map, Some}
use Rattle.std.specs.List.{AllByRecursion}
use Rattle.proc_values.specs.obj_layout.declared.kind.Kind.TheVariants as kind
use Rattle.proc_values.specs.obj_layout.declared.reference.Reference.{Reference}
use Rattle.proc_values.specs.obj_layout.declared.reference.Reference.TheVariants as name
use Rattle.proc_values.specs.swizzle.Joint.{Shown}
use Rattle.proc_values.specs.ps_heap.Values.{Pointer}
use Rattle.proc_values.specs.ps_heap.Tables.{Entry, Table, without_keys, by_strings, by_ints, cardinality}
use Rattle.proc_values.specs.ps_heap.Objects.{Heap, Object, Keyed, object_at}
use Rattle.node_rows.specs.avl_trees.Trees.{Tree, items, IsBalanced}
use Rattle.node_rows.specs.avl_trees.Standing.{Item, Stands, IsRising, root_of}
use Rattle.node_rows.specs.Keys as keys
use Rattle.node_rows.specs.Keys.{Keys, KeyOf, order_by}
use Rattle.node_rows.specs.Nodes.{I, IsAmong, HasNode, HasValue, link_of}
use Rattle.heap_meaning.specs.Values.{Seen, Pairing, IsKindOf, StandsFor}

-- the number of a table's kind of keys; 0 is that of none
abbrev pub key_kind : Table → ℕ
key_kind without_keys = 0
key_kind (by_strings entries) = 1
key_kind (by_ints entries) = 2

-- the pairs of these items are these entries: the same keys, and names that stand for the entries' objects
abbrev pub ArePairs : {K : Type 0} → Seen → Pairing → List (Item Reference K Reference) → List (Entry K) → Type 0
ArePairs seen pair [] [] = Unit {0}
ArePairs seen pair (a ∷ is) (e ∷ es) = (a.entry.key ≡ e.key) × StandsFor seen pair a.entry.value (Pointer e.object) × ArePairs seen pair is es
ArePairs seen pair _ _ = ⊥

-- the names of the nodes of items
abbrev pub names_of : {K : Type 0} → List (Item Reference K Reference) → List Reference
names_of is = map (λ a. a.name) is

-- From this root on a search tree stands, whose pairs are these entries, and which has these nodes.
pub record HasEntries (ks : Keys) (seen : Seen) (pair : Pairing) (root : Reference) (entries : List (Entry (KeyOf ks))) (nodes : List Reference) : Type 0 where
  pub tree : Tree (I ks)
  pub root_is : link_of root ≡ root_of tree
  pub stands : Stands (HasNode ks seen) tree
  pub rising : IsRising (order_by ks) tree
  pub balanced : IsBalanced tree
  pub values : AllByRecursion HasValue (items tree)
  pub pairs : ArePairs seen pair (items tree) entries
  pub nodes_are : nodes ≡ names_of (items tree)

-- a table that never had a key has no root
abbrev pub HasNodes : Seen → Pairing → Reference → Table → List Reference → Type 0
HasNodes seen pair root without_keys nodes = (root ≡ name.Nil) × (nodes ≡ [])
HasNodes seen pair root (by_strings entries) nodes = HasEntries keys.by_texts seen pair root entries nodes
HasNodes seen pair root (by_ints entries) nodes = HasEntries keys.by_ints seen pair root entries nodes

-- What is seen under a name is a table: it refers to its root, its words tell its home, the kind of its keys and how many entries it has, and it has
-- these nodes.
pub record IsTable (seen : Seen) (pair : Pairing) (n : Reference) (table : Table) (nodes : List Reference) : Type 0 where
  pub it : Shown
  pub there : seen n it
  pub kind_is : it.kind ≡ kind.Table
  pub root : Reference
  pub home : ℕ
  pub refs : it.refs ≡ root ∷ []
  pub nums : it.nums ≡ home ∷ key_kind table ∷ cardinality table ∷ []
  pub has : HasNodes seen pair root table nodes

-- The tables of the heap stand: each has its nodes, and no node belongs to two tables.
pub record TablesStand (seen : Seen) (heap : Heap) (pair : Pairing) : Type 0 where
  -- the names of the nodes of the table with this number
  pub nodes : ℕ → List Reference
  pub each : (n : Reference) (id : ℕ) (table : Table) → pair n id → object_at heap id ≡ Some (Keyed table) → IsTable seen pair n table (nodes id)
  pub are_nodes : (id : ℕ) (n : Reference) → IsAmong n (nodes id) → IsKindOf seen n kind.Node
  pub apart : (i j : ℕ) (n : Reference) → IsAmong n (nodes i) → IsAmong n (nodes j) → i ≡ j

-- What is seen of a new object, if it is a table: it has no root, and never had a key.
abbrev pub IsNewTable : Shown → Object → Type 0
IsNewTable it (Keyed without_keys) = (it.refs ≡ name.Nil ∷ []) × (home : ℕ) × (it.nums ≡ home ∷ 0 ∷ 0 ∷ [])
IsNewTable it (Keyed table) = ⊥
IsNewTable it object = Unit {0}
