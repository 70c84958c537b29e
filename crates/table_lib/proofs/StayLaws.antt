-- Other tables stay where a call is made on one.
use Rattle.std.proofs.Common.{◌≡◌, ◌≢◌, ◌⊎◌, ℕ, List, [], ◌∷◌, sym, ap, ◌∙◌, subst, inl, inr}
use Rattle.std.specs.List.{AllByRecursion}
use Rattle.table_nodes.specs.heap_places.obj_layout.declared.kind.Kind.TheVariants.{Text}
use Rattle.table_nodes.specs.heap_places.obj_layout.declared.reference.Reference.{Reference}
use Rattle.table_nodes.specs.heap_places.swizzle.Heap.{IsHeld, IsListed}
use Rattle.table_nodes.specs.heap_places.swizzle.Joint.{Shown, shown_at}
use Rattle.table_nodes.specs.heap_places.swizzle.Reading.{joint}
use Rattle.table_nodes.specs.heap_places.Shapes.{slot_of}
use Rattle.table_nodes.proofs.of_heap_places.PlaceLaws.{slot-name}
use Rattle.table_nodes.specs.avl_trees.Trees.{Tree, items}
use Rattle.table_nodes.specs.avl_trees.Standing.{Has, IsApart, seek, under}
use Rattle.table_nodes.proofs.of_avl_trees.Entering.{entered_all}
use Rattle.table_nodes.proofs.of_avl_trees.Ordered.{all_map, without_all}
use Rattle.table_nodes.proofs.of_avl_trees.Standing.{all_have, parts_of, stands_kept}
use Rattle.table_nodes.specs.node_rows.Keys.{Keys, by_ints, by_texts, KeyOf, order_by, IsKey}
use Rattle.table_nodes.specs.node_rows.Nodes.{Seat, link_of, I}
use Rattle.table_nodes.specs.Steps.{Place, IsPlace, rows_of}
use Rattle.table_nodes.proofs.KeyLaws.{total}
use Rattle.table_nodes.specs.Nodes.{seen}
use Rattle.table_nodes.proofs.NodeLaws.{joint_one}
use Rattle.table_nodes.proofs.SeenLaws.{seen_from, seen_joint}
use Rattle.table_nodes.proofs.Sparing.{unlike}
use Rattle.table_lib.specs.Tables.{HasPairs, IsTable}
use Rattle.table_lib.specs.Entries.{AreApart, EntersPair, HasNow, IsOpen, SparesBut, TakesKey}
use Rattle.table_lib.proofs.WriteLaws.{table_lasts}

all_two : {A : Type 0} (P Q R : A → Type 0) → ((a : A) → P a → Q a → R a) → (xs : List A) → AllByRecursion P xs → AllByRecursion Q xs → AllByRecursion R xs
all_two P Q R f [] p q = tt
all_two P Q R f (x ∷ xs) p q = (f x p.0 q.0, all_two P Q R f xs p.1 q.1)

module _ (ks other : Keys) (old new : Place) (at b : ℕ) (t : Tree (I ks)) (v : Tree (I other)) (p : IsPlace old) (pairs : HasPairs ks old at t) (spares : SparesBut at old.heap new.heap old.outside new.outside) (apart : b ≢ at)
    (table : IsTable other old b v) (names : AreApart other ks (items v) (items t)) where
  held : IsHeld old.heap b
  held = table.keys.shape.held

  -- the table's own words stay
  shown_same : shown_at new.heap b ≡ shown_at old.heap b
  shown_same = go (spares.kept b held)
    where
      go : (shown_at new.heap b ≡ shown_at old.heap b) ⊎ (IsOpen at new.heap b × IsListed b new.heap.assigned) → shown_at new.heap b ≡ shown_at old.heap b
      go (inl e) = e
      go (inr (inl same, l)) = absurd (apart same)
      go (inr (inr n, l)) = let k = (spares.lasts b held).kind ∙ table.keys.shape.kind in absurd (cc (k, n.kind))

  -- the name of a text is that of no node
  text_apart : (n : Reference) (it : Shown) → it.kind ≡ Text → joint old.heap old.outside n it → IsApart n (items t)
  text_apart n it is there =
      all_map (Has (rows_of ks old)) (λ a. a.name ≢ n)
      (λ a r e. let same = joint_one old.heap old.outside p.heap p.single n r.there.it it (subst (λ m. joint old.heap old.outside m r.there.it) e (seen_joint old.heap old.outside a.name r.there.it r.there.there)) there in let kind = ap (λ (x : Shown). x.kind) same in absurd (cc (kind, is, r.there.is.kind)))
      (items t) (all_have (rows_of ks old) t pairs.stands)

  module _ (u : Tree (I ks)) (now : HasNow ks old new at (items t) u) where
    row_kept : (n : Reference) (row : Seat other) → IsApart n (items t) → rows_of other old n row → rows_of other new n row
    row_kept n row beside r = record {
      it = r.it;
      there = stays n r.it (λ e. (let k = pairs.shape.kind in let m = r.is.kind in absurd (cc (e, k, m)))) beside r.there;
      is = record { kind = r.is.kind; refs = r.is.refs; nums = r.is.nums; left = r.is.left; right = r.is.right; key = key other row.entry.key r.is.key; value = r.is.value; height = r.is.height };
    }
      where
        stays : (m : Reference) (it : Shown) → it.kind ≢ (shown_at old.heap at).kind → IsApart m (items t) → seen old.heap old.outside m it → seen new.heap new.outside m it
        stays m it ne beside there =
            let held = seen_joint old.heap old.outside m it there in
            seen_from old.heap new.heap old.outside new.outside now.here.heap spares.lasts spares.contents m it there
            (now.others m it (unlike old.heap old.outside at m it p.heap pairs.shape.held ne held) beside held)

        key : (kind : Keys) (k : KeyOf kind) → IsKey kind (seen old.heap old.outside) r.it k → IsKey kind (seen new.heap new.outside) r.it k
        key by_ints k is = is
        key by_texts k is = record {
          it = is.it;
          there = stays (slot_of r.it 2) is.it (λ e. (let f = pairs.shape.kind in let m = is.kind in absurd (cc (e, f, m))))
              (text_apart (slot_of r.it 2) is.it is.kind (seen_joint old.heap old.outside (slot_of r.it 2) is.it is.there)) is.there;
          kind = is.kind;
          bytes_are = is.bytes_are;
        }

    pub table_stays : IsTable other new b v
    table_stays = record {
      keys = record { shape = table_lasts old.heap new.heap b (spares.lasts b held) table.keys.shape; kind = ap (λ (it : Shown). Rattle.std.specs.Prelude.slice_index it.nums 1) shown_same ∙ table.keys.kind };
      count = ap (λ (it : Shown). Rattle.std.specs.Prelude.slice_index it.nums 2) shown_same ∙ table.count;
      root = ap link_of (sym (slot-name new.heap b 0) ∙ (ap (λ (it : Shown). slot_of it 0) shown_same ∙ slot-name old.heap b 0)) ∙ table.root;
      stands = stands_kept (rows_of other old) (rows_of other new) (λ n. IsApart n (items t)) row_kept v names table.stands;
      rising = table.rising;
      balanced = table.balanced;
      values = table.values;
    }

  pub apart_entered : (key : KeyOf ks) (value : Reference) (w : EntersPair ks old new at (items t) key value) → IsTable other new b v × AreApart other ks (items v) (items w.tree)
  apart_entered key value w = (
    table_stays w.tree w.now,
    all_two (λ a. IsApart a.name (items t)) (Has (rows_of other old)) (λ a. IsApart a.name (items w.tree))
        (λ a beside has. subst (IsApart a.name) (sym w.pairs)
        (entered_all (order_by ks) (total ks) key value w.fresh (λ x. x.name ≢ a.name) (items t) (λ e. w.is_fresh has.there.it (subst (λ n. joint old.heap old.outside n has.there.it) (sym e) (seen_joint old.heap old.outside a.name has.there.it has.there.there))) (λ x f ne. ne) beside))
        (items v) names (all_have (rows_of other old) v table.stands),
  )

  pub apart_taken : (key : KeyOf ks) (w : TakesKey ks old new at (items t) key) → IsTable other new b v × AreApart other ks (items v) (items w.tree)
  apart_taken key w = (
    table_stays w.tree w.now,
    all_map (λ a. IsApart a.name (items t)) (λ a. IsApart a.name (items w.tree))
        (λ a beside. subst (IsApart a.name) (sym w.pairs) (without_all (under (order_by ks)) (seek (order_by ks) key) (parts_of (order_by ks) (total ks) key) (λ x. x.name ≢ a.name) (items t) beside))
        (items v) names,
  )
