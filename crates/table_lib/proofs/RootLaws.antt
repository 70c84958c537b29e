-- The tree of a table, from its root on.
use Rattle.std.proofs.Common.{refl, ◌≡◌, ℕ, ◌+◌, ◌*◌, ◌^◌, ◌<◌, List, [], ◌∷◌, length, Option, Some, sym, ap, ◌∙◌, subst, arith}
use Rattle.table_nodes.specs.heap_places.obj_layout.declared.reference.Reference.{Reference}
use Rattle.table_nodes.specs.heap_places.obj_layout.declared.reference.Reference.TheVariants.{Nil, Pid, Local}
use Rattle.table_nodes.specs.heap_places.swizzle.Heap.{Heap, num_at}
use Rattle.table_nodes.specs.heap_places.swizzle.Joint.{name_of}
use Rattle.table_nodes.proofs.of_heap_places.of_swizzle.NameLaws.{name-not_nil}
use Rattle.table_nodes.specs.avl_trees.Trees.{Tree, items, height, bits, lookup}
use Rattle.table_nodes.specs.avl_trees.Standing.{root_of, seek, under}
use Rattle.table_nodes.specs.avl_trees.Rising.{find}
use Rattle.table_nodes.proofs.of_avl_trees.Heights.{height_bound}
use Rattle.table_nodes.proofs.of_avl_trees.Ordered.{lookup_items}
use Rattle.table_nodes.proofs.of_avl_trees.Standing.{parts_of, stands_grown}
use Rattle.table_nodes.specs.node_rows.Keys.{Keys, KeyOf, order_by}
use Rattle.table_nodes.specs.Nodes.{IsLinked}
use Rattle.table_nodes.specs.node_rows.Nodes.{I}
use Rattle.table_nodes.specs.Steps.{Place, rows_of, Touches}
use Rattle.table_nodes.specs.Searching.{AreSeen, IsTree}
use Rattle.table_nodes.proofs.KeyLaws.{total}
use Rattle.table_nodes.proofs.SeenLaws.{grown_seen}
use Rattle.table_lib.specs.Tables.{HasPairs, IsTable}

-- a reference that names nothing is nil
pub nil_named : (heap : Heap) (to : Reference) → name_of heap to ≡ Nil → to ≡ Nil
nil_named heap Nil e = refl
nil_named heap (Pid pid) e = absurd (cc)
nil_named heap (Local at) e = absurd (name-not_nil heap at e)

-- a table's tree is that of its pairs
pub pairs_of : (ks : Keys) (p : Place) (at : ℕ) (t : Tree (I ks)) → IsTable ks p at t → HasPairs ks p at t
pairs_of ks p at t h = record { shape = h.keys.shape; count = h.count; root = h.root; stands = h.stands; rising = h.rising; balanced = h.balanced; values = h.values }

pub tree_from : (ks : Keys) (old new : Place) (at : ℕ) (t : Tree (I ks)) (root : Option ℕ) → Touches old new → HasPairs ks old at t → IsLinked new.heap root (root_of t) → IsTree ks new root t
tree_from ks old new at t root grows h linked = record { stands = stands_grown (rows_of ks old) (rows_of ks new) (grows.rows ks) t h.stands; root_is = linked; rising = h.rising; balanced = h.balanced; values = h.values }

-- the tree stands from the root that was read
pub tree_of : (ks : Keys) (old new : Place) (at : ℕ) (t : Tree (I ks)) (root : Option ℕ) → Touches old new → IsTable ks old at t → IsLinked new.heap root (root_of t) → IsTree ks new root t
tree_of ks old new at t root grows h linked = tree_from ks old new at t root grows (pairs_of ks old at t h) linked

-- it is lower than the bound that the number of pairs gives
pub pairs_low : (ks : Keys) (p : Place) (at : ℕ) (t : Tree (I ks)) (count bound : ℕ) → HasPairs ks p at t → count ≡ num_at p.heap at 2 → count < 2 ^ 64 → bound ≡ 2 * bits count + 1 → height t < bound
pairs_low ks p at t count bound h e small is =
    let n : length (items t) ≡ count = sym (e ∙ h.count) in
    let b = height_bound t h.balanced (subst (λ m. m < 2 ^ 64) (sym n) small) in
    let same : bits (length (items t)) ≡ bits count = ap bits n in
    omega (arith, b, same, is)

pub tree_low : (ks : Keys) (p : Place) (at : ℕ) (t : Tree (I ks)) (count bound : ℕ) → IsTable ks p at t → count ≡ num_at p.heap at 2 → count < 2 ^ 64 → bound ≡ 2 * bits count + 1 → height t < bound
tree_low ks p at t count bound h e small is = pairs_low ks p at t count bound (pairs_of ks p at t h) e small is

-- what is found in the tree is what is found among its pairs
pub found_items : (ks : Keys) (key : KeyOf ks) (p : Place) (at : ℕ) (t : Tree (I ks)) → IsTable ks p at t → lookup (seek (order_by ks) key) t ≡ find (seek (order_by ks) key) (items t)
found_items ks key p at t h = lookup_items (under (order_by ks)) (seek (order_by ks) key) (parts_of (order_by ks) (total ks) key) t h.rising

-- the table that was opened is that of the call
pub one_table : (table : Option ℕ) (here at : ℕ) → table ≡ Some here → table ≡ Some at → here ≡ at
one_table table here at e f = cc

-- values that are seen are seen after touches
pub values_grown : (ks : Keys) (old new : Place) (is : List (I ks)) → Touches old new → AreSeen ks old.heap old.outside is → AreSeen ks new.heap new.outside is
values_grown ks old new [] grows k = tt
values_grown ks old new (a ∷ is) grows k =
    (record { it = k.0.it; is = grown_seen old.heap new.heap old.outside new.outside grows a.entry.value k.0.it k.0.is }, values_grown ks old new is grows k.1)
