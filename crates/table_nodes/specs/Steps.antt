-- What a step of a change does to the nodes of a table's tree, in the area and the vault together.
use Rattle.std.specs.Prelude.{◌≢◌, ℕ, ◌≤◌, ◌<◌, List, ◌∷◌, ◌++◌, Option, Some}
use Rattle.heap_places.specs.ps_outside.Outside.{Outside}
use Rattle.heap_places.specs.obj_layout.Stored.{Space}
use Rattle.heap_places.specs.obj_layout.declared.reference.Reference.{Reference}
use Rattle.heap_places.specs.swizzle.Heap.{Heap, IsHeap}
use Rattle.heap_places.specs.swizzle.Joint.{Shown, name_at}
use Rattle.heap_places.specs.swizzle.Reading.{joint}
use Rattle.avl_trees.specs.Trees.{Tree, height, items, node}
use Rattle.avl_trees.specs.Standing.{Rows, Given, Becomes, IsApart, root_of}
use Rattle.node_rows.specs.Keys.{Keys, KeyOf, order_by}
use Rattle.table_nodes.specs.Hanging.{Hangs}
use Rattle.table_nodes.specs.Nodes.{IsNode, IsNamed, IsLinked, IsSingle, IsSteady, Grows, rows_in}
use Rattle.node_rows.specs.Nodes.{I}

-- the area and what is seen of the outside
pub record Place : Type 1 where
  pub heap : Heap
  pub outside : Outside Space

abbrev pub place : Heap → Outside Space → Place
place heap outside = record { heap = heap; outside = outside }

abbrev pub rows_of : (ks : Keys) → Place → Rows Reference (KeyOf ks) Reference
rows_of ks p = rows_in ks p.heap p.outside

pub record IsPlace (p : Place) : Type 0 where
  pub heap : IsHeap p.heap
  pub single : IsSingle p.outside

-- Two trees and a node between them are at these places.
pub record AreSides (ks : Keys) (p : Place) (at : ℕ) (left right : Option ℕ) (l : Tree (I ks)) (a : I ks) (r : Tree (I ks)) : Type 0 where
  pub given : Given (order_by ks) (rows_of ks p) l a r
  pub here : IsPlace p
  pub name : IsNamed p.heap at a.name
  pub left_is : IsLinked p.heap left (root_of l)
  pub right_is : IsLinked p.heap right (root_of r)
  pub left_low : height l ≤ 200
  pub right_low : height r ≤ 200

-- objects are seen as they were, but for the nodes of these items
abbrev pub StayBeside : (ks : Keys) → Place → Place → List (I ks) → Type 0
StayBeside ks old new is = (n : Reference) (it : Shown) → IsApart n is → joint old.heap old.outside n it → joint new.heap new.outside n it

-- A tree has become another one, which stands now, from this place on.
pub record StandsAt (ks : Keys) (old new : Place) (before t : Tree (I ks)) (root : ℕ) : Type 0 where
  pub becomes : Becomes (rows_of ks old) (rows_of ks new) (items before) t
  pub here : IsPlace new
  pub root_is : IsLinked new.heap (Some root) (root_of t)
  pub others : StayBeside ks old new (items before)
  pub hangs : Hangs ks old.heap new.heap old.outside before t

-- nodes of the area keep their names
pub record Holds (old new : Heap) : Type 0 where
  pub nodes : (at : ℕ) → IsNode old at → IsNode new at
  pub named : (at : ℕ) (n : Reference) → IsNamed old at n → IsNamed new at n

-- A left side that is higher by two, by its parts, a node, and its right side.
pub record AreTurned (ks : Keys) (p : Place) (at left : ℕ) (outer inner right : Option ℕ) (x : Tree (I ks)) (b : I ks) (y : Tree (I ks)) (a : I ks) (r : Tree (I ks)) : Type 0 where
  pub given : Given (order_by ks) (rows_of ks p) (node x b y) a r
  pub here : IsPlace p
  pub at_is : IsNamed p.heap at a.name
  pub left_is : IsNamed p.heap left b.name
  pub outer_is : IsLinked p.heap outer (root_of x)
  pub inner_is : IsLinked p.heap inner (root_of y)
  pub right_is : IsLinked p.heap right (root_of r)
  pub lower : height x < height y
  pub low : height y ≤ 199
  pub right_low : height r ≤ 199

-- the mirror of it
pub record AreTurnedOut (ks : Keys) (p : Place) (at right : ℕ) (left inner outer : Option ℕ) (l : Tree (I ks)) (a : I ks) (x : Tree (I ks)) (b : I ks) (y : Tree (I ks)) : Type 0 where
  pub given : Given (order_by ks) (rows_of ks p) l a (node x b y)
  pub here : IsPlace p
  pub at_is : IsNamed p.heap at a.name
  pub right_is : IsNamed p.heap right b.name
  pub inner_is : IsLinked p.heap inner (root_of x)
  pub outer_is : IsLinked p.heap outer (root_of y)
  pub left_is : IsLinked p.heap left (root_of l)
  pub lower : height y < height x
  pub low : height x ≤ 199
  pub left_low : height l ≤ 199

-- What a call that gives a node its sides does.
pub record SetsSides (old new : Place) (at : ℕ) (left right : Option ℕ) : Type 0 where
  pub set : (ks : Keys) (l : Tree (I ks)) (a : I ks) (r : Tree (I ks)) → AreSides ks old at left right l a r → Becomes (rows_of ks old) (rows_of ks new) (items l ++ a ∷ items r) (node l a r)
  pub here : IsPlace old → IsPlace new
  pub holds : Holds old.heap new.heap
  pub others : IsPlace old → (n : Reference) (it : Shown) → n ≢ name_at old.heap at → joint old.heap old.outside n it → joint new.heap new.outside n it
  pub steady : IsSteady old.heap new.heap at

-- touches lead from one place to the other
abbrev pub Touches : Place → Place → Type 0
Touches old new = Grows old.heap new.heap old.outside new.outside
