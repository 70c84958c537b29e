-- A value is entered under a key of a table, or a key is taken out.
use Rattle.std.proofs.Common.{◌≡◌, ◌≢◌, ◌⊎◌, ℕ, ◌+◌, ◌-◌, ◌^◌, ◌<◌, Bool, true, false, List, [], ◌∷◌, length, Option, Some, None, Result, Ok, Err, IfSome, MatchResult, refl, sym, ap, ◌∙◌, subst, arith, inl, inr}
use Rattle.std.specs.List.{AllByRecursion}
use Rattle.table_nodes.specs.declared.enter.Entered.{Entered}
use Rattle.table_nodes.specs.heap_places.obj_layout.declared.reference.Reference.{Reference}
use Rattle.table_nodes.specs.heap_places.obj_layout.declared.reference.Reference.TheVariants.{Nil}
use Rattle.table_nodes.specs.heap_places.swizzle.Heap.{num_at, ref_at}
use Rattle.table_nodes.specs.heap_places.swizzle.Joint.{Shown, name_at, name_of}
use Rattle.table_nodes.specs.heap_places.swizzle.Reading.{joint}
use Rattle.table_nodes.specs.heap_places.swizzle.Touch.{Keeps}
use Rattle.table_nodes.specs.heap_places.swizzle.declared.fault.SwizzleFault.{SwizzleFault}
use Rattle.table_nodes.specs.heap_places.heap_texts.declared.fault.OpFault.{OpFault}
use Rattle.table_nodes.specs.heap_places.heap_texts.declared.fault.OpFault.TheVariants.{Swizzle}
use Rattle.table_nodes.specs.avl_trees.Rising.{enter, without}
use Rattle.table_nodes.specs.avl_trees.Trees.{Tree, leaf, node, items, insert, remove, lookup, IsBalanced}
use Rattle.table_nodes.specs.avl_trees.Standing.{Stands, IsApart, IsRising, root_of, seek, put, fresh_item, under}
use Rattle.table_nodes.proofs.of_avl_trees.Balanced.{remove_shrunk}
use Rattle.table_nodes.proofs.of_avl_trees.Entering.{entered_items, entered_rising, entered_grown}
use Rattle.table_nodes.proofs.of_avl_trees.Ordered.{without_all, lookup_items}
use Rattle.table_nodes.proofs.of_avl_trees.Removing.{removed_items, removed_rising}
use Rattle.table_nodes.proofs.of_avl_trees.OneTree.{stands_one}
use Rattle.table_nodes.proofs.of_avl_trees.Standing.{parts_of}
use Rattle.table_nodes.specs.node_rows.Keys.{Keys, KeyOf, order_by}
use Rattle.table_nodes.specs.node_rows.Nodes.{link_of, I, HasValue}
use Rattle.table_nodes.specs.Bringing.{NoneCome}
use Rattle.table_nodes.specs.Fetching.{Fetches}
use Rattle.table_nodes.specs.Hanging.{AreHung, Hangs}
use Rattle.table_nodes.specs.Nodes.{IsChanged, IsNode, IsLinked, IsFetchFault}
use Rattle.table_nodes.specs.Steps.{Place, IsPlace, StayBeside, Touches, rows_of}
use Rattle.table_nodes.specs.Sparing.{Spares}
use Rattle.table_nodes.specs.Entering.{is_missing, IsEnterFault}
use Rattle.table_nodes.specs.Entering as entering
use Rattle.table_nodes.specs.Removing.{Leaves}
use Rattle.table_nodes.proofs.KeyLaws.{total}
use Rattle.table_nodes.proofs.NodeLaws.{link_side}
use Rattle.table_nodes.proofs.FetchLaws.{fetches_then}
use Rattle.table_nodes.proofs.HangLaws.{all_apart, hung_beside, hung_touched, steady_touched}
use Rattle.table_nodes.proofs.StepLaws.{linked_kept, one}
use Rattle.table_lib.specs.Tables.{IsTableAt, HasPairs, IsUnused}
use Rattle.table_lib.specs.Entries.{SparesBut, WritesTable, MarksTable, HasNow, EntersPair, TakesKey, StaysUnused, PutsPair, TakesPair, Enters}
use Rattle.table_lib.specs.Operations.{Opens}
use Rattle.table_lib.specs.declared.words.Opened.{Opened}
use Rattle.table_lib.proofs.CountLaws.{counted_enter, counted_without}
use Rattle.table_lib.proofs.RootLaws.{nil_named, one_table}
use Rattle.table_lib.proofs.UseLaws.{uses_unused, uses_used, uses_refused}
use Rattle.table_lib.proofs.WriteLaws.{fetches_but, rows_stay, table_kept, table_lasts, words_spared}

-- A table without keys has an empty tree.
pub no_pairs : (ks : Keys) (p : Place) (at : ℕ) → IsUnused p.heap at → HasPairs ks p at leaf
no_pairs ks p at u = record { shape = u.shape; count = u.count; root = ap (λ to. link_of (name_of p.heap to)) u.root; stands = tt; rising = tt; balanced = tt; values = tt }

-- A table's words tell of pairs exactly where it has a root.
pub rooted : (ks : Keys) (p : Place) (at : ℕ) (t : Tree (I ks)) → HasPairs ks p at t → ((ref_at p.heap at 0 ≡ Nil) × (num_at p.heap at 2 ≡ 0)) ⊎ ((ref_at p.heap at 0 ≢ Nil) × (num_at p.heap at 2 ≢ 0))
rooted ks p at leaf h = inl (nil_named p.heap (ref_at p.heap at 0) (unlinked (name_of p.heap (ref_at p.heap at 0)) h.root), h.count)
  where
    unlinked : (n : Reference) → link_of n ≡ None → n ≡ Nil
    unlinked Nil e = refl
    unlinked (Rattle.table_nodes.specs.heap_places.obj_layout.declared.reference.Reference.TheVariants.Pid pid) e = absurd (cc)
    unlinked (Rattle.table_nodes.specs.heap_places.obj_layout.declared.reference.Reference.TheVariants.Local i) e = absurd (cc)
rooted ks p at (node l a r) h =
    let some = Rattle.std.proofs.Common.length-append (items l) (a ∷ items r) in
    inr ((λ e. let f = sym h.root ∙ ap (λ to. link_of (name_of p.heap to)) e in absurd (cc)), λ e. (let c = h.count in omega (arith, some, c, e)))

module _ (ks : Keys) (old m m1 m2 : Place) (at : ℕ) (root : Option ℕ) (count : ℕ) (table : IsTableAt old.heap at) (keeps : Keeps old.heap m.heap) (grows : Touches old m) (spares : Spares m.heap m1.heap m.outside m1.outside)
    (wrote : WritesTable ks m1.heap m2.heap m1.outside at root count) (outside : m2.outside ≡ m1.outside) (p : IsPlace old)
    (came : Fetches ks old.heap m.heap old.outside) (writes : SparesBut at m1.heap m2.heap m1.outside m2.outside) (none : NoneCome m1.heap m2.heap) where
  shape : IsTableAt m.heap at
  shape = table_kept old.heap m.heap at keeps table

  shape1 : IsTableAt m1.heap at
  shape1 = table_lasts m.heap m1.heap at (spares.lasts at shape.held) shape

  name_now : name_at m1.heap at ≡ name_at old.heap at
  name_now = (spares.lasts at shape.held).name ∙ (keeps.objects at table.held).name

  module _ (is : List (I ks)) (u : Tree (I ks)) (stands : Stands (rows_of ks m1) u) (here : IsPlace m1) (linked : IsLinked m1.heap root (root_of u)) (others : StayBeside ks m m1 is) (steady : (n : Reference) (it : Shown) → IsApart n is → joint m.heap m.outside n it → IsChanged m1.heap n → IsChanged m.heap n) (rising : IsRising (order_by ks) u) (balanced : IsBalanced u) (values : AllByRecursion HasValue (items u)) (counted : count ≡ length (items u)) where
    stands_now : Stands (rows_of ks m2) u
    stands_now = Rattle.table_nodes.proofs.of_avl_trees.Standing.stands_grown (rows_of ks m1) (rows_of ks m2)
        (λ n row r. subst (λ o. Rattle.table_nodes.specs.Nodes.rows_in ks m2.heap o n row) (sym outside) (rows_stay ks m1.heap m2.heap m1.outside at here.heap wrote.heap shape1 wrote.lasts (wrote.others here.single) n row r)) u stands

    pub has_now : HasNow ks old m2 at is u
    has_now = record {
      table = record {
        keys = wrote.keys;
        count = wrote.count_is ∙ counted;
        root = ap link_of wrote.root_is ∙ link_side m2.heap root (root_of u) (linked_kept m1.heap m2.heap wrote.holds.named root (root_of u) linked);
        stands = stands_now;
        rising = rising;
        balanced = balanced;
        values = values;
      };
      here = record { heap = wrote.heap; single = subst Rattle.table_nodes.specs.Nodes.IsSingle (sym outside) here.single };
      noted = wrote.noted;
      home = wrote.home ∙ (ap (λ (it : Shown). Rattle.std.specs.Prelude.slice_index it.nums 0) (words_spared m.heap m1.heap m.outside m1.outside at spares shape) ∙ ap (λ (it : Shown). Rattle.std.specs.Prelude.slice_index it.nums 0) (keeps.objects at table.held).shown_as);
      others = λ n it ne q k. subst (λ o. joint m2.heap o n it) (sym outside) (wrote.others here.single n it (λ e. ne (e ∙ name_now)) (others n it q (grows.seen n it k)));
      steady = λ n it q k c. steady_touched old m p grows n it k (steady n it q (grows.seen n it k) (wrote.steady n c));
    }

  module _ (key : KeyOf ks) (t : Tree (I ks)) (h : HasPairs ks old at t) where
    -- what came into the area, and how the tree hangs, once the table was written
    fetched_now : Fetches ks m.heap m1.heap m.outside → Fetches ks old.heap m2.heap old.outside
    fetched_now f = fetches_but ks at old.heap m1.heap m2.heap old.outside m1.outside m2.outside table.held writes none
        (fetches_then ks old.heap m.heap m1.heap old.outside m.outside m1.outside grows.leaves.contents spares came f)

    hung_now : (u : Tree (I ks)) → Stands (rows_of ks m1) u → Hangs ks m.heap m1.heap m.outside t u → (v : Tree (I ks)) → HasPairs ks old at v → AreHung old.heap v → AreHung m2.heap u
    hung_now u stands w v k hung =
        let same : v ≡ t = stands_one (rows_of ks old) (one ks old p) v t k.stands h.stands (sym k.root ∙ h.root) in
        hung_beside ks m1 m2 [] (λ n i. record { at = i.at; named = wrote.holds.named i.at n i.named }) (λ n it q i c. wrote.steady n c) u stands (all_apart [] (items u) tt)
        (w.hung (hung_touched ks old m p grows t h.stands (subst (AreHung old.heap) same hung)))

    found_is : lookup (seek (order_by ks) key) t ≡ Rattle.table_nodes.specs.avl_trees.Rising.find (seek (order_by ks) key) (items t)
    found_is = lookup_items (under (order_by ks)) (seek (order_by ks) key) (parts_of (order_by ks) (total ks) key) t h.rising

    pub pair_entered : (value : Reference) → value ≢ Nil → (before : ℕ) (made : Bool) (top : Entered) → root ≡ Some top.root → entering.Enters ks m m1 t key value top → made ≡ is_missing (lookup (seek (order_by ks) key) t)
        → before ≡ num_at old.heap at 2 → length (items t) < 2 ^ 64 - 1 → (made ≡ true → before < 2 ^ 64 - 1 → count ≡ before + 1) → (made ≡ false → count ≡ before) → EntersPair ks old m2 at (items t) key value
    pair_entered value some before made top is_root w is_made is_before low more same =
        let e = entered_items (order_by ks) (total ks) key value w.fresh t h.rising in
        let number = counted_enter (seek (order_by ks) key) (put value) (fresh_item w.fresh key value) (items t) made before count (is_made ∙ ap is_missing found_is) (is_before ∙ h.count) (subst (λ n. n < 2 ^ 64 - 1) (sym (is_before ∙ h.count)) low) more same in
        record {
          tree = insert (seek (order_by ks) key) (put value) (fresh_item w.fresh key value) t;
          fresh = w.fresh;
          is_fresh = λ it k. w.is_fresh it (grows.seen w.fresh it k);
          pairs = e;
          fetched = fetched_now w.fetched;
          hung = hung_now (insert (seek (order_by ks) key) (put value) (fresh_item w.fresh key value) t) w.stands.becomes.stands w.stands.hangs;
          now = has_now (items t) (insert (seek (order_by ks) key) (put value) (fresh_item w.fresh key value) t) w.stands.becomes.stands w.stands.here
              (subst (λ s. IsLinked m1.heap s (root_of (insert (seek (order_by ks) key) (put value) (fresh_item w.fresh key value) t))) (sym is_root) w.stands.root_is) w.stands.others w.stands.hangs.steady
              (entered_rising (order_by ks) (total ks) key value w.fresh t h.rising) (entered_grown (order_by ks) (total ks) key value w.fresh t h.balanced).balanced
              (subst (AllByRecursion HasValue) (sym e) (Rattle.table_nodes.proofs.of_avl_trees.Entering.entered_all (order_by ks) (total ks) key value w.fresh HasValue (items t) some (λ a f p. some) h.values))
              (number ∙ ap length (sym e));
        }

    pub key_taken : (before : ℕ) (gone : Bool) → Leaves ks m m1 t (remove (seek (order_by ks) key) t) root → gone ≢ is_missing (lookup (seek (order_by ks) key) t) → before ≡ num_at old.heap at 2
        → (gone ≡ true → count ≡ before - 1) → (gone ≡ false → count ≡ before) → TakesKey ks old m2 at (items t) key
    key_taken before gone w is_gone is_before fewer same =
        let e = removed_items (order_by ks) (total ks) key t h.rising in
        let number = counted_without (seek (order_by ks) key) (items t) gone before count (λ f. is_gone (f ∙ ap is_missing (sym found_is))) (is_before ∙ h.count) fewer same in
        record {
          tree = remove (seek (order_by ks) key) t;
          pairs = e;
          fetched = fetched_now w.fetched;
          hung = hung_now (remove (seek (order_by ks) key) t) w.becomes.stands w.hangs;
          now = has_now (items t) (remove (seek (order_by ks) key) t) w.becomes.stands w.here w.root_is w.others w.hangs.steady
              (removed_rising (order_by ks) (total ks) key t h.rising) (remove_shrunk (seek (order_by ks) key) t h.balanced).balanced
              (subst (AllByRecursion HasValue) (sym e) (without_all (under (order_by ks)) (seek (order_by ks) key) (parts_of (order_by ks) (total ks) key) HasValue (items t) h.values))
              (number ∙ ap length (sym e));
        }

-- What the whole call does.

abbrev pub lifted : {T : Type 0} → Result T SwizzleFault → Result T OpFault
lifted (Ok x) = Ok x
lifted (Err fault) = Err (Swizzle fault)

module _ (T : Type 0) (ks : Keys) (old new : Place) (table : Option ℕ) (key : KeyOf ks) where
  pub enters_refused : (fault : OpFault) (to : Option ℕ) → Opens ks old.heap table (Err fault) → Enters {T = T} ks old new table key to (Err fault)
  enters_refused fault None o = uses_refused ks old table _ _ fault o
  enters_refused fault (Some value) o = uses_refused ks old table _ _ fault o

  module _ (opened : Opened) (o : Opens ks old.heap table (Ok opened)) where
    put_into : (value : Reference) (at : ℕ) (t : Tree (I ks)) (result : Result T SwizzleFault) → MatchResult result (λ done. EntersPair ks old new at (items t) key value) (IsEnterFault old.heap old.outside)
        → MatchResult (lifted result) (λ done. EntersPair ks old new at (items t) key value) (Rattle.table_lib.specs.Entries.IsOpEnterFault old.heap old.outside)
    put_into value at t (Ok x) w = w
    put_into value at t (Err fault) w = w

    take_from : (at : ℕ) (t : Tree (I ks)) (result : Result T SwizzleFault) → MatchResult result (λ done. TakesKey ks old new at (items t) key) (IsFetchFault old.heap old.outside)
        → MatchResult (lifted result) (λ done. TakesKey ks old new at (items t) key) (Rattle.table_lib.specs.Operations.IsOpFetchFault old.heap old.outside)
    take_from at t (Ok x) w = w
    take_from at t (Err fault) w = w

    pub enters_put : (value : ℕ) (result : Result T SwizzleFault) → PutsPair ks old new opened.at key (name_at old.heap value) result → Enters ks old new table key (Some value) (lifted result)
    enters_put value result puts = go opened.used refl
      where
        go : (b : Bool) → opened.used ≡ b → Enters ks old new table key (Some value) (lifted result)
        go true e = uses_used ks old table _ _ opened e o (lifted result) (λ t h p low. put_into (name_at old.heap value) opened.at t result (puts t p (Rattle.table_lib.proofs.RootLaws.pairs_of ks old opened.at t h) low))
        go false e = uses_unused ks old table _ _ opened e o (lifted result)
            (λ at f p. subst (λ i. MatchResult (lifted result) (λ done. EntersPair ks old new i [] key (name_at old.heap value)) (Rattle.table_lib.specs.Entries.IsOpEnterFault old.heap old.outside)) (one_table table opened.at at o.at_is f)
            (put_into (name_at old.heap value) opened.at leaf result (puts leaf p (no_pairs ks old opened.at (o.never e)) (omega arith))))

    stays_unused : (at : ℕ) → opened.at ≡ at → opened.used ≡ false → IsPlace old → (result : Result T SwizzleFault) → MatchResult result (λ done. MarksTable old.heap new.heap old.outside new.outside opened.at) (λ fault. ⊥)
        → MatchResult (lifted result) (λ done. StaysUnused old new at) (λ fault. ⊥)
    stays_unused at same e p (Err fault) w = absurd w
    stays_unused at same e p (Ok x) w = subst (StaysUnused old new) same (record {
      unused = w.unused (o.never e);
      here = record { heap = w.heap; single = w.single p.single };
      noted = w.noted;
      home = w.home;
      others = λ n it k. w.seen p.single n it k;
      none = w.none;
      steady = w.steady;
    })

    pub enters_none : (result : Result T SwizzleFault) → (opened.used ≡ true → TakesPair ks old new opened.at key result)
        → (opened.used ≡ false → MatchResult result (λ done. MarksTable old.heap new.heap old.outside new.outside opened.at) (λ fault. ⊥)) → Enters ks old new table key None (lifted result)
    enters_none result takes marks = go opened.used refl
      where
        go : (b : Bool) → opened.used ≡ b → Enters ks old new table key None (lifted result)
        go true e = uses_used ks old table _ _ opened e o (lifted result) (λ t h p. take_from opened.at t result (takes e t p (Rattle.table_lib.proofs.RootLaws.pairs_of ks old opened.at t h)))
        go false e = uses_unused ks old table _ _ opened e o (lifted result) (λ at f p. stays_unused at (one_table table opened.at at o.at_is f) e p result (marks e))

    pub enters_done : (to : Option ℕ) (result : Result T SwizzleFault) → ((value : ℕ) → to ≡ Some value → PutsPair ks old new opened.at key (name_at old.heap value) result)
        → (to ≡ None → opened.used ≡ true → TakesPair ks old new opened.at key result)
        → (to ≡ None → opened.used ≡ false → MatchResult result (λ done. MarksTable old.heap new.heap old.outside new.outside opened.at) (λ fault. ⊥)) → Enters ks old new table key to (lifted result)
    enters_done (Some value) result puts takes marks = enters_put value result (puts value refl)
    enters_done None result puts takes marks = enters_none result (takes refl) (marks refl)
