-- Whether the nodes of a tree hang together. A commit goes from changed tables to changed nodes, over objects that lie in the area alone: so where a node has
-- changed, those above it are to lie in the area.
use Rattle.std.specs.Prelude.{◌⊎◌, List, [], ◌∷◌}
use Rattle.heap_places.specs.ps_outside.Outside.{Outside}
use Rattle.heap_places.specs.obj_layout.Stored.{Space}
use Rattle.heap_places.specs.obj_layout.declared.reference.Reference.{Reference}
use Rattle.heap_places.specs.swizzle.Heap.{Heap}
use Rattle.heap_places.specs.swizzle.Joint.{Shown}
use Rattle.heap_places.specs.swizzle.Reading.{joint}
use Rattle.avl_trees.specs.Trees.{Tree, leaf, node, items}
use Rattle.avl_trees.specs.Standing.{Item, IsApart}
use Rattle.node_rows.specs.Keys.{Keys}
use Rattle.node_rows.specs.Nodes.{I}
use Rattle.table_nodes.specs.Nodes.{IsHere, IsChanged}

-- one of these nodes has changed
abbrev pub HasChanged : {K : Type 0} → Heap → List (Item Reference K Reference) → Type 0
HasChanged heap [] = ⊥
HasChanged heap (a ∷ is) = IsChanged heap a.name ⊎ HasChanged heap is

-- Where a node of a tree has changed, the root of the tree lies in the area; and so it is of all trees below.
abbrev pub AreHung : {K : Type 0} → Heap → Tree (Item Reference K Reference) → Type 0
AreHung heap leaf = Unit {0}
AreHung heap (node l a r) = (HasChanged heap (items (node l a r)) → IsHere heap a.name) × AreHung heap l × AreHung heap r

-- What becomes of a tree. Nodes of the area stay in it; but for the nodes of the tree as it was, none that was seen has changed that hadn't; and where its nodes
-- hung together, they do so still.
pub record Hangs (ks : Keys) (old new : Heap) (outside : Outside Space) (before after : Tree (I ks)) : Type 0 where
  pub here : (n : Reference) → IsHere old n → IsHere new n
  pub steady : (n : Reference) (it : Shown) → IsApart n (items before) → joint old outside n it → IsChanged new n → IsChanged old n
  pub hung : AreHung old before → AreHung new after
