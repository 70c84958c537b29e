-- The nodes of a table's search tree: what is seen of one under a name.
use Rattle.std.specs.Prelude.{◌≡◌, ◌≢◌, ◌⊎◌, List, [], ◌∷◌, length, Option, Some, None}
use Rattle.heap_places.specs.obj_layout.declared.kind.Kind.TheVariants.{Node}
use Rattle.heap_places.specs.obj_layout.declared.reference.Reference.{Reference}
use Rattle.heap_places.specs.obj_layout.declared.reference.Reference.TheVariants.{Nil}
use Rattle.heap_places.specs.swizzle.Joint.{Shown}
pub use Rattle.heap_places.specs.swizzle.Reading.{IsAmong}
use Rattle.heap_places.specs.Shapes.{slot_of, word_in}
use Rattle.avl_trees.specs.Standing.{Item, Row}
use Rattle.node_rows.specs.Keys.{Keys, KeyOf, Seen, IsKey}

-- the object that a slot names, if it names one
abbrev pub link_of : Reference → Option Reference
link_of Nil = None
link_of n = Some n

abbrev pub Seat : Keys → Type 0
Seat ks = Row Reference (KeyOf ks) Reference

-- A node has four references, its sides, its key text and its value, and three number words, its home, its int key and its height.
pub record IsSeat (ks : Keys) (seen : Seen) (it : Shown) (row : Seat ks) : Type 0 where
  pub kind : it.kind ≡ Node
  pub refs : length it.refs ≡ 4
  pub nums : length it.nums ≡ 3
  pub left : link_of (slot_of it 0) ≡ row.left
  pub right : link_of (slot_of it 1) ≡ row.right
  pub key : IsKey ks seen it row.entry.key
  pub value : slot_of it 3 ≡ row.entry.value
  pub height : word_in it 2 ≡ row.height

-- What is seen under the name is a node with this row.
pub record HasNode (ks : Keys) (seen : Seen) (n : Reference) (row : Seat ks) : Type 0 where
  pub it : Shown
  pub there : seen n it
  pub is : IsSeat ks seen it row

-- a node's name, its key and its value's name
abbrev pub I : Keys → Type 0
I ks = Item Reference (KeyOf ks) Reference

-- no pair has nil for its value
abbrev pub HasValue : {K : Type 0} → Item Reference K Reference → Type 0
HasValue a = a.entry.value ≢ Nil
