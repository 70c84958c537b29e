-- What is known of nodes while a tree of them is changed.
use Rattle.std.proofs.Common.{◌≡◌, ◌≢◌, ℕ, List, ◌∷◌, ◌++◌, sym, ◌∙◌, Option, Some, None, Result, Ok, Err, OnOk, IfSome, refl, subst}
use Rattle.heap_places.specs.ps_outside.Outside.{Outside}
use Rattle.heap_places.specs.obj_layout.Stored.{Space}
use Rattle.heap_places.specs.obj_layout.declared.reference.Reference.{Reference}
use Rattle.heap_places.specs.swizzle.declared.fault.SwizzleFault.{SwizzleFault}
use Rattle.heap_places.specs.swizzle.Heap.{Heap, IsHeap}
use Rattle.heap_places.specs.swizzle.Joint.{name_at}
use Rattle.avl_trees.specs.Trees.{Tree, leaf, node, height}
use Rattle.avl_trees.specs.Standing.{Item, root_of, row_of, Stands, IsApart, IsOne, IsWritten}
use Rattle.avl_trees.proofs.Ordered.{all_front, all_back}
use Rattle.avl_trees.proofs.Turning.{set_between}
use Rattle.node_rows.specs.Keys.{Keys, order_by}
use Rattle.node_rows.specs.Nodes.{Seat, IsSeat, I}
use Rattle.table_nodes.specs.Nodes.{IsNamed, IsLinked, IsSide, Links, seen, with_sides}
use Rattle.table_nodes.specs.Steps.{Place, place, rows_of, IsPlace, AreSides, SetsSides, Holds as Keeps, Touches}
use Rattle.table_nodes.proofs.KeyLaws.{total}
use Rattle.table_nodes.proofs.NodeLaws.{seat_one, seen_one, single_kept, grows_none, grows_then}

pub one : (ks : Keys) (p : Place) → IsPlace p → IsOne (rows_of ks p)
one ks p h n a b k l =
    let single = seen_one p.heap p.outside h.heap h.single in
    seat_one ks (seen p.heap p.outside) k.it a b single k.is (subst (λ it. IsSeat ks (seen p.heap p.outside) it b) (single n l.it k.it l.there k.there) l.is)

-- the height that was read is that of the tree there
pub height_is : (ks : Keys) (p : Place) (side : Option ℕ) (h : ℕ) → (side ≡ None → h ≡ 0) → ((at : ℕ) (n : Reference) (row : Seat ks) → side ≡ Some at → IsNamed p.heap at n → rows_of ks p n row → h ≡ row.height)
    → (t : Tree (I ks)) → Stands (rows_of ks p) t → IsLinked p.heap side (root_of t) → h ≡ height t
height_is ks p None h none some leaf s e = none refl
height_is ks p (Some at) h none some leaf s e = absurd e
height_is ks p None h none some (node l a r) s e = absurd e
height_is ks p (Some at) h none some (node l a r) s e = some at a.name (row_of l a r) refl e s.0

-- the root of what stands is a side
pub is_side : (ks : Keys) (p : Place) (t : Tree (I ks)) → Stands (rows_of ks p) t → IsSide ks p.heap p.outside (root_of t)
is_side ks p leaf s = tt
is_side ks p (node l a r) s = (row_of l a r, s.0)

pub linked_kept : (a b : Heap) → ((at : ℕ) (n : Reference) → IsNamed a at n → IsNamed b at n) → (side : Option ℕ) (l : Option Reference) → IsLinked a side l → IsLinked b side l
linked_kept a b f None None m = tt
linked_kept a b f (Some at) (Some n) m = f at n m
linked_kept a b f None (Some n) m = m
linked_kept a b f (Some at) None m = m

pub place_touched : (old new : Place) → Touches old new → IsPlace old → IsPlace new
place_touched old new g p = record { heap = g.heap; single = single_kept old.outside new.outside g.leaves.contents p.single }

pub touches_then : (old mid new : Place) → Touches old mid → Touches mid new → Touches old new
touches_then old mid new f g = grows_then old.heap mid.heap new.heap old.outside mid.outside new.outside f g

-- a name is apart from those of a part of a tree, and isn't that of the node of an item

pub apart_front : {K : Type 0} (n : Reference) (xs : List (Item Reference K Reference)) (a : Item Reference K Reference) (ys : List (Item Reference K Reference)) → IsApart n (xs ++ a ∷ ys) → IsApart n xs
apart_front n xs a ys p = all_front (λ x. x.name ≢ n) xs (a ∷ ys) p

pub apart_back : {K : Type 0} (n : Reference) (xs : List (Item Reference K Reference)) (a : Item Reference K Reference) (ys : List (Item Reference K Reference)) → IsApart n (xs ++ a ∷ ys) → IsApart n ys
apart_back n xs a ys p = (all_back (λ x. x.name ≢ n) xs (a ∷ ys) p).1

pub other_name : {K : Type 0} (heap : Heap) (at : ℕ) (n : Reference) (xs : List (Item Reference K Reference)) (a : Item Reference K Reference) (ys : List (Item Reference K Reference)) → IsNamed heap at a.name → IsApart n (xs ++ a ∷ ys) → n ≢ name_at heap at
other_name heap at n xs a ys named p = λ e. (all_back (λ x. x.name ≢ n) xs (a ∷ ys) p).0 (sym (e ∙ named.name))

-- a node was given its sides
pub sides_set : (old new : Heap) (outside : Outside Space) (at : ℕ) (left right : Option ℕ) (h : ℕ) → Links old new outside at left right h
    → ((ks : Keys) (l : Tree (I ks)) (a : I ks) (r : Tree (I ks)) → AreSides ks (place old outside) at left right l a r → h ≡ height (node l a r)) → SetsSides (place old outside) (place new outside) at left right
sides_set old new outside at left right h w high = record {
  set = λ ks l a r g.
      let k = g.given.has in
      let e = high ks l a r g in
      let is : with_sides (root_of l) (root_of r) h k.row ≡ row_of l a r = cc (e, k.entry) in
      let v = w.written ks a.name (root_of l) (root_of r) k.row g.here.single g.name g.left_is g.right_is k.there in
      set_between (order_by ks) (total ks) (rows_of ks (place old outside)) (rows_of ks (place new outside)) (one ks (place old outside) g.here) l a r g.given (subst (λ row. IsWritten (rows_of ks (place old outside)) a.name row (rows_of ks (place new outside))) is v);
  here = λ p. record { heap = w.heap; single = p.single };
  others = λ p. w.others p.single;
  steady = w.steady;
  holds = record { nodes = w.nodes; named = w.named };
}

pub holds_after : (old m new : Place) → Touches old m → (result : Result ℕ SwizzleFault) → OnOk result (Keeps m.heap new.heap) → OnOk result (Keeps old.heap new.heap)
holds_after old m new g (Ok root) w = record { nodes = λ at h. w.nodes at (g.nodes at h); named = λ at n h. w.named at n (g.named at n h) }
holds_after old m new g (Err fault) w = tt

-- what is so of each node of a side
pub side_map : (P Q : ℕ → Type 0) → ((n : ℕ) → P n → Q n) → (side : Option ℕ) → IfSome side P → IfSome side Q
side_map P Q f None h = tt
side_map P Q f (Some n) h = f n h

-- nodes that kept their names keep them over a further step
pub holds_over : {T : Type 0} (old mid new : Heap) → Keeps old mid → (result : Result T SwizzleFault) → OnOk result (Keeps mid new) → OnOk result (Keeps old new)
holds_over old mid new f (Ok x) g = record { nodes = λ at h. g.nodes at (f.nodes at h); named = λ at n h. g.named at n (f.named at n h) }
holds_over old mid new f (Err fault) g = tt

-- nothing was touched
pub touches_none : (p : Place) → IsHeap p.heap → Touches p p
touches_none p h = grows_none p.heap p.outside h
