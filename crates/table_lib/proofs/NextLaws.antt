-- The node of the next key of a table, and its pair.
use Rattle.std.proofs.Common.{◌≡◌, ℕ, List, [], ◌∷◌, Option, Some, None, Ok, Err, IfSome, refl, ap, ◌∙◌, subst}
use Rattle.std.specs.List.{AllByRecursion}
use Rattle.std.specs.declared.cmp.Ordering.{Ordering}
use Rattle.std.specs.declared.cmp.Ordering.TheVariants.{Less, Equal, Greater}
use Rattle.table_nodes.specs.avl_trees.Rising.{Parts, pick, above, or_else}
use Rattle.table_nodes.specs.avl_trees.Trees.{Tree, items, next}
use Rattle.table_nodes.specs.avl_trees.Standing.{Has, under, seek}
use Rattle.table_nodes.proofs.of_avl_trees.Ordered.{next_items}
use Rattle.table_nodes.proofs.of_avl_trees.Standing.{all_have, parts_of}
use Rattle.table_nodes.specs.node_rows.Keys.{Keys, KeyOf, order_by}
use Rattle.table_nodes.specs.heap_places.obj_layout.declared.reference.Reference.{Reference}
use Rattle.table_nodes.specs.heap_places.swizzle.declared.fault.SwizzleFault.{SwizzleFault}
use Rattle.table_nodes.specs.heap_places.heap_texts.declared.fault.OpFault.{OpFault}
use Rattle.table_nodes.specs.heap_places.heap_texts.declared.fault.OpFault.TheVariants.{Swizzle}
use Rattle.table_nodes.specs.heap_places.swizzle.Changes.{IsKnown}
use Rattle.table_nodes.specs.Nodes.{IsLinked, IsFetchFault, seen}
use Rattle.table_nodes.specs.node_rows.Nodes.{I, HasValue}
use Rattle.table_nodes.specs.Steps.{Place, rows_of, Touches}
use Rattle.table_nodes.specs.Searching.{IsTree}
use Rattle.table_nodes.specs.Following.{item_name}
use Rattle.table_nodes.specs.Fetching.{Arrives}
use Rattle.table_nodes.proofs.FetchLaws.{arrives_then}
use Rattle.table_nodes.proofs.KeyLaws.{total}
use Rattle.table_nodes.proofs.SeenLaws.{fetch_back, grown_seen}
use Rattle.table_lib.specs.Nexts.{after_key, IsNodeOf, FetchesPair, FindsNode, FindsPair, IsPairOf, ReadsPair}
use Rattle.table_lib.specs.Operations.{FetchesUsed}
use Rattle.table_lib.proofs.UseLaws.{err_same}

-- what is so of each is so of the next
above_all : {A : Type 0} (P : A → Type 0) (probe : A → Ordering) (xs : List A) → AllByRecursion P xs → IfSome (above probe xs) P
above_all P probe [] h = tt
above_all P probe (x ∷ xs) h =
    elim (probe x) as (λ o. IfSome (pick o (Some x) (above probe xs) (above probe xs)) P) [ Less ↦ h.0 | Equal ↦ above_all P probe xs h.1 | Greater ↦ above_all P probe xs h.1 ]

or_none : {A : Type 0} (x : Option A) → or_else x None ≡ x
or_none None = refl
or_none (Some a) = refl

-- the node that was found, where the tree stands in a place that the search leads to
pub node_found : (ks : Keys) (m new : Place) (root : Option ℕ) (t : Tree (I ks)) (probe : I ks → Ordering) (found : Option ℕ) → Parts (under (order_by ks)) probe → IsTree ks m root t → Touches m new
    → IsLinked new.heap found (item_name (next probe t None)) → IsNodeOf ks new found (above probe (items t))
node_found ks m new root t probe found parts h grows linked =
    go found (above probe (items t)) (subst (λ o. IsLinked new.heap found (item_name o)) (next_items (under (order_by ks)) probe parts t None h.rising ∙ or_none (above probe (items t))) linked)
    (above_all (Has (rows_of ks m)) probe (items t) (all_have (rows_of ks m) t h.stands)) (above_all HasValue probe (items t) h.values)
  where
    go : (found : Option ℕ) (item : Option (I ks)) → IsLinked new.heap found (item_name item) → IfSome item (Has (rows_of ks m)) → IfSome item HasValue → IsNodeOf ks new found item
    go None None l k v = tt
    go (Some n) (Some a) l k v = (l, record { row = k.row; there = grows.rows ks a.name k.row k.there; entry = k.entry }, v)
    go None (Some a) l k v = absurd l
    go (Some n) None l k v = absurd l

pub seek_parts : (ks : Keys) (key : KeyOf ks) → Parts {A = I ks} (under {N = Reference} {K = KeyOf ks} {V = Reference} (order_by ks)) (seek (order_by ks) key)
seek_parts ks key = parts_of (order_by ks) (total ks) key

pub least_parts : (ks : Keys) → Parts (under (order_by ks)) (λ (a : I ks). Less)
least_parts ks a b below not = refl

-- The pair of the node that was found.
module _ {P : Type 0} (ks : Keys) (is : P → I ks → Type 0) (old m : Place) (table : Option ℕ) (after : Option (KeyOf ks)) where
  pub pairs_refused : (fault : OpFault) → FindsNode ks old m table (after_key ks after) (Err fault) → FindsPair ks is old table after (Err fault)
  pairs_refused fault o = record {
    nil = λ e. ap Err (err_same fault _ (Err fault) refl (o.nil e));
    class = λ at e ne. ap Err (err_same fault _ (Err fault) refl (o.class at e ne));
    other = λ at other t ne e h. ap Err (err_same fault _ (Err fault) refl (o.other at other t ne e h));
    unused_is = λ at e h. (let f = o.unused_is at e h in absurd (cc));
    used_is = λ at t e h all. o.used_is at t e h;
  }

  pub pairs_none : FindsNode ks old m table (after_key ks after) (Ok None) → FindsPair ks is old table after (Ok None)
  pairs_none o = record {
    nil = λ e. (let f = o.nil e in absurd (cc));
    class = λ at e ne. (let f = o.class at e ne in absurd (cc));
    other = λ at other t ne e h. (let f = o.other at other t ne e h in absurd (cc));
    unused_is = λ at e h. refl;
    used_is = λ at t e h. go (above (after_key ks after) (items t)) (o.used_is at t e h);
  }
    where
      go : (item : Option (I ks)) → IsNodeOf ks m None item → IsPairOf is None item
      go None h = tt
      go (Some a) h = absurd h

  pub pairs_some : (node : ℕ) → FindsNode ks old m table (after_key ks after) (Ok (Some node)) → (pair : P) → ReadsPair ks is m node (Ok pair) → FindsPair ks is old table after (Ok (Some pair))
  pairs_some node o pair reads = record {
    nil = λ e. (let f = o.nil e in absurd (cc));
    class = λ at e ne. (let f = o.class at e ne in absurd (cc));
    other = λ at other t ne e h. (let f = o.other at other t ne e h in absurd (cc));
    unused_is = λ at e h. (let f = o.unused_is at e h in absurd (cc));
    used_is = λ at t e h. go (above (after_key ks after) (items t)) (o.used_is at t e h);
  }
    where
      go : (item : Option (I ks)) → IsNodeOf ks m (Some node) item → IsPairOf is (Some pair) item
      go None h = absurd h
      go (Some a) h = reads a h.0 h.1 h.2

  pub pairs_fault : (node : ℕ) → Touches old m → FindsNode ks old m table (after_key ks after) (Ok (Some node)) → (fault : SwizzleFault) → ReadsPair ks is m node (Err fault) → FindsPair ks is old table after (Err (Swizzle fault))
  pairs_fault node grows o fault reads = record {
    nil = λ e. (let f = o.nil e in absurd (cc));
    class = λ at e ne. (let f = o.class at e ne in absurd (cc));
    other = λ at other t ne e h. (let f = o.other at other t ne e h in absurd (cc));
    unused_is = λ at e h. (let f = o.unused_is at e h in absurd (cc));
    used_is = λ at t e h all.
        go (above (after_key ks after) (items t)) (o.used_is at t e h) (above_all (λ a. IsKnown (seen old.heap old.outside) a.entry.value) (after_key ks after) (items t) all);
  }
    where
      go : (item : Option (I ks)) → IsNodeOf ks m (Some node) item → IfSome item (λ a. IsKnown (seen old.heap old.outside) a.entry.value) → IsFetchFault old.heap old.outside fault
      go None h k = absurd h
      go (Some a) h k =
          fetch_back old.heap m.heap old.outside m.outside fault grows
          (reads a h.0 h.1 h.2 (record { it = k.it; is = grown_seen old.heap m.heap old.outside m.outside grows a.entry.value k.it k.is }))

-- The pair of the node that was found was fetched after it.
pub pair_fetches : {P : Type 0} (ks : Keys) (old m new : Place) (table : Option ℕ) (probe : I ks → Ordering) (node : ℕ) (pair : P) → Touches old m → Touches m new → FindsNode ks old m table probe (Ok (Some node))
    → FetchesUsed {T = Option ℕ} ks old m.heap table (Ok (Some node)) → FetchesPair ks m new.heap node (Ok pair) → FetchesUsed ks old new.heap table (Ok (Some pair))
pair_fetches ks old m new table probe node pair first then o f reads = record {
  unused = λ at e h. (let g = o.unused_is at e h in absurd (cc));
  used = λ at t e h all.
      arrives_then old.heap m.heap new.heap old.outside m.outside new.outside first then (f.used at t e h all)
      (go (above probe (items t)) (o.used_is at t e h) (above_all (λ a. IsKnown (seen old.heap old.outside) a.entry.value) probe (items t) all));
}
  where
    go : (item : Option (I ks)) → IsNodeOf ks m (Some node) item → IfSome item (λ a. IsKnown (seen old.heap old.outside) a.entry.value) → Arrives m.heap new.heap m.outside
    go None h k = absurd h
    go (Some a) h k = reads a h.0 h.1 (record { it = k.it; is = grown_seen old.heap m.heap old.outside m.outside first a.entry.value k.it k.is })
