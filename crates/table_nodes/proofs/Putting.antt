-- A pair is put into the tree of a node.
use Rattle.std.proofs.Common.{true, false, ◌≡◌, ◌≢◌, ℕ, ◌+◌, ◌<◌, ◌∷◌, Option, Some, None, Result, Ok, Err, MatchResult, refl, sym, ap, ◌∙◌, subst, arith, inl, inr}
use Rattle.std.specs.declared.cmp.Ordering.TheVariants.{Less, Equal, Greater}
use Rattle.heap_places.specs.ps_outside.Outside.{Outside}
use Rattle.heap_places.specs.obj_layout.Stored.{Space}
use Rattle.heap_places.specs.obj_layout.Stored.{Holds as Stored}
use Rattle.heap_places.specs.obj_layout.declared.reference.Reference.{Reference}
use Rattle.heap_places.specs.obj_layout.declared.reference.Reference.TheVariants.{Local}
use Rattle.heap_places.specs.swizzle.declared.fault.SwizzleFault.{SwizzleFault}
use Rattle.heap_places.specs.swizzle.declared.fault.SwizzleFault.TheVariants.{AreaFull, Vault}
use Rattle.heap_places.specs.swizzle.Heap.{Heap, IsFull, top_of}
use Rattle.heap_places.specs.swizzle.Joint.{name_at}
use Rattle.heap_places.specs.swizzle.Reading.{joint}
use Rattle.heap_places.proofs.of_swizzle.JointLaws.{name-fresh}
use Rattle.heap_places.proofs.of_swizzle.NameLaws.{name_at-injective}
use Rattle.avl_trees.specs.Trees.{Tree, leaf, node, height, items, insert, lookup}
use Rattle.avl_trees.specs.Standing.{Stands, under, root_of, row_of, put, fresh_item, seek, IsWritten}
use Rattle.avl_trees.proofs.Leaning.{insert_leans, grew_left, grew_right}
use Rattle.avl_trees.proofs.Ordered.{around, all_front, all_back}
use Rattle.avl_trees.proofs.Standing.{stands_grown}
use Rattle.avl_trees.proofs.Turning.{touched}
use Rattle.avl_trees.proofs.Entering.{apart_left, apart_right, left_given, left_entered, right_given, right_entered, entered_here, entered_leaf, entered_grown, entered_here_is, entered_left_is, entered_right_is}
use Rattle.node_rows.specs.Keys.{Keys, KeyOf, order_by}
use Rattle.table_nodes.specs.Nodes.{IsNamed, IsLinked, Grows}
use Rattle.node_rows.specs.Nodes.{I, HasValue}
use Rattle.table_nodes.specs.Steps.{Place, place, IsPlace, rows_of, AreSides, Holds, Touches}
use Rattle.table_nodes.specs.Bringing.{NoneCome}
use Rattle.table_nodes.specs.Fetching.{Fetches}
use Rattle.table_nodes.specs.Hanging.{AreHung}
use Rattle.table_nodes.specs.Sparing.{Spares}
use Rattle.table_nodes.specs.Turning.{Balances}
use Rattle.table_nodes.specs.Wings.{AreEnds, IsLeftWing, IsRightWing}
use Rattle.table_nodes.specs.declared.wing.Wing.{Wing}
use Rattle.table_nodes.specs.Searching.{IsTree}
use Rattle.table_nodes.specs.Entering.{Makes, Puts, with_value, IsOpened, Enters, EntersAt, IsEnterFault, IsCountedAt, is_missing, IsNoRoom}
use Rattle.table_nodes.specs.declared.enter.Entered.{Entered}
use Rattle.table_nodes.specs.declared.opening.Opened.{Opened}
use Rattle.table_nodes.specs.declared.span.Span.{Span}
use Rattle.table_nodes.specs.Spans.{IsWithin}
use Rattle.table_nodes.proofs.FetchLaws.{fetches_none, fetches_then}
use Rattle.table_nodes.proofs.HangLaws.{Parted, here_touched, hung_touched, keeps_steady, plain_hung, side_kept, steady_touched, tree_given, tree_parted}
use Rattle.table_nodes.proofs.KeyLaws.{total}
use Rattle.table_nodes.proofs.Sparing.{spares_then}
use Rattle.table_nodes.proofs.SeenLaws.{seen_joint, fetch_back}
use Rattle.table_nodes.proofs.Seeking.{lookup_here, lookup_left, lookup_right}
use Rattle.table_nodes.proofs.WingLaws.{ends_kept, left_ends, right_ends}
use Rattle.table_nodes.proofs.StepLaws.{one, linked_kept, place_touched, apart_front, apart_back, other_name}

-- a side of a tree is a tree
module _ (ks : Keys) (old m : Place) (root side : Option ℕ) (grows : Touches old m) (l : Tree (I ks)) (a : I ks) (r : Tree (I ks)) (t : IsTree ks old root (node l a r)) where
  pub tree_left : IsLinked m.heap side (root_of l) → IsTree ks m side l
  tree_left e = record {
    stands = stands_grown (rows_of ks old) (rows_of ks m) (grows.rows ks) l t.stands.1;
    root_is = e;
    rising = (around (under (order_by ks)) (items l) a (items r) t.rising).left;
    balanced = t.balanced.0;
    values = all_front HasValue (items l) (a ∷ items r) t.values;
  }

  pub tree_right : IsLinked m.heap side (root_of r) → IsTree ks m side r
  tree_right e = record {
    stands = stands_grown (rows_of ks old) (rows_of ks m) (grows.rows ks) r t.stands.2;
    root_is = e;
    rising = (around (under (order_by ks)) (items l) a (items r) t.rising).right;
    balanced = t.balanced.1;
    values = (all_back HasValue (items l) (a ∷ items r) t.values).1;
  }

module _ (ks : Keys) (key : KeyOf ks) (value : Reference) where
  -- the tree with the pair
  abbrev with_entry : Reference → Tree (I ks) → Tree (I ks)
  with_entry fresh t = insert (seek (order_by ks) key) (put value) (fresh_item fresh key value) t

  -- a new node has no sides
  abbrev new_wing : Wing
  new_wing = record { sides = Some (record { left = None; right = None }); left = None; right = None }

  abbrev made_as : Result ℕ SwizzleFault → Result Entered SwizzleFault
  made_as (Ok at) = Ok (record { root = at; made = true; wing = new_wing })
  made_as (Err fault) = Err fault

  pub put_leaf : (old new : Heap) (outside : Outside Space) (root : Option ℕ) (result : Result ℕ SwizzleFault) → root ≡ None
      → MatchResult result (λ at. Makes ks old new outside at key value) (λ fault. IsFull old new 11 fault)
      → (t : Tree (I ks)) → IsPlace (place old outside) → IsTree ks (place old outside) root t → MatchResult (made_as result) (Enters ks (place old outside) (place new outside) t key value) (IsEnterFault old outside)
  unfolding insert
  put_leaf old new outside root (Err fault) e made (node x b y) p h = absurd (subst (λ s. IsLinked old s (Some b.name)) e h.root_is)
  put_leaf old new outside root (Ok at) e made (node x b y) p h = absurd (subst (λ s. IsLinked old s (Some b.name)) e h.root_is)
  put_leaf old new outside root (Err fault) e made leaf p h = inr (subst (IsNoRoom old) (sym made.fault_is) (omega arith, refl, refl, made.full))
  put_leaf old new outside root (Ok at) e made leaf p h = record {
    fresh = Local at;
    is_fresh = made.fresh;
    stands = record {
      becomes = entered_leaf (order_by ks) (total ks) key value (Local at) (rows_of ks (place old outside)) (rows_of ks (place new outside)) made.there (made.rows ks);
      here = record { heap = made.heap; single = p.single };
      root_is = made.here;
      others = λ n it p k. made.seen n it k;
      hangs = record {
        here = λ n k. record { at = k.at; named = made.named k.at n k.named };
        steady = λ n it q k c. keeps_steady old new outside p.heap made.heap made.keeps n it k c;
        hung = λ h. ((λ c. record { at = at; named = made.here }), tt, tt);
      };
    };
    fetched = made.fetched;
    wing = λ grew. (((tt, tt), λ lower. tt), ((tt, tt), λ lower. tt));
  }

  module _ (old m m1 m2 : Place) (at : ℕ) (root : Option ℕ) (opened : Opened) (grows : Touches old m) (p : IsPlace old) (l : Tree (I ks)) (a : I ks) (r : Tree (I ks)) (t : IsTree ks old root (node l a r)) (named : IsNamed old.heap at a.name) (o : IsOpened ks m.heap key l a r opened)
      (came : Fetches ks old.heap m.heap old.outside) where
    standing : Stands (rows_of ks m) (node l a r)
    standing = stands_grown (rows_of ks old) (rows_of ks m) (grows.rows ks) (node l a r) t.stands

    here : IsPlace m
    here = place_touched old m grows p

    -- the nodes on both sides hang together after touches
    opened_hung : AreHung old.heap (node l a r) → AreHung m.heap (node l a r)
    opened_hung h = hung_touched ks old m p grows (node l a r) t.stands h

    parted : Parted (items l) a (items r)
    parted = tree_parted ks m here l a r standing t.rising

    came_then : (m1 m2 : Place) → Spares m.heap m1.heap m.outside m1.outside → Spares m1.heap m2.heap m1.outside m2.outside → NoneCome m1.heap m2.heap → Fetches ks m.heap m1.heap m.outside → Fetches ks old.heap m2.heap old.outside
    came_then m1 m2 first second none f =
        fetches_then ks old.heap m.heap m2.heap old.outside m.outside m2.outside grows.leaves.contents (spares_then m.heap m1.heap m2.heap m.outside m1.outside m2.outside first second) came
        (fetches_then ks m.heap m1.heap m2.heap m.outside m1.outside m2.outside first.contents second f (fetches_none ks m1.heap m2.heap m1.outside none))

    pub put_left : (side top : Entered) → Spares m.heap m1.heap m.outside m1.outside → Spares m1.heap m2.heap m1.outside m2.outside → NoneCome m1.heap m2.heap → Holds m.heap m1.heap → Holds m1.heap m2.heap → Enters ks m m1 l key value side → Balances m1 m2 at (Some side.root) opened.right side.wing top.root
        → (top.root ≡ at → top.wing ≡ record { sides = Some (record { left = Some side.root; right = opened.right }); left = side.wing.sides; right = None })
        → height (node l a r) < 200 → opened.order ≡ Less → Enters ks old m2 (node l a r) key value top
    put_left side top first second no_other holds last w balances plain low less =
        let e = sym o.order ∙ less in
        let grown = entered_grown (order_by ks) (total ks) key value w.fresh l t.balanced.0 in
        let g = left_given (order_by ks) (total ks) key value w.fresh (rows_of ks m) (rows_of ks m1) (one ks m here) l a r e standing t.rising w.stands.becomes in
        let sides : AreSides ks m1 at (Some side.root) opened.right (with_entry w.fresh l) a r = record {
          given = g;
          here = w.stands.here;
          name = holds.named at a.name (grows.named at a.name named);
          left_is = w.stands.root_is;
          right_is = linked_kept m.heap m1.heap holds.named opened.right (root_of r) o.right;
          left_low = omega (arith, grown.high, low);
          right_low = omega (arith, low);
        } in
        let known : height r + 1 < height (with_entry w.fresh l) → IsLeftWing m1.heap side.wing (with_entry w.fresh l) = λ tall. (w.wing (omega (arith, tall, grown.high, grown.low, t.balanced.2))).0 in
        let none : height (with_entry w.fresh l) + 1 < height r → IsRightWing m1.heap side.wing r = λ tall. absurd (omega (arith, tall, grown.low, t.balanced.2)) in
        let v = balances ks (with_entry w.fresh l) a r sides known none in
        let is = entered_left_is (order_by ks) (total ks) key value w.fresh l a r e in
        record {
          fresh = w.fresh;
          is_fresh = λ it k. w.is_fresh it (grows.seen w.fresh it k);
          stands = record {
            becomes = touched (rows_of ks old) (rows_of ks m) (rows_of ks m2) _ _ (grows.rows ks) (left_entered (order_by ks) (total ks) key value w.fresh (rows_of ks m) (rows_of ks m1) (rows_of ks m2) (λ row k. w.is_fresh k.it (seen_joint m.heap m.outside w.fresh k.it k.there)) l a r e t.rising w.stands.becomes v.becomes);
            here = v.here;
            root_is = subst (λ u. IsLinked m2.heap (Some top.root) (root_of u)) (sym is) v.root_is;
            hangs = record {
              here = λ n k. v.hangs.here n (w.stands.hangs.here n (here_touched old m grows n k));
              steady = λ n it q k c.
                  let unlike : w.fresh ≢ n = λ e. w.is_fresh it (subst (λ x. joint m.heap m.outside x it) (sym e) (grows.seen n it k)) in
                  let side = apart_front n (items l) a (items r) q in
                  steady_touched old m p grows n it k (w.stands.hangs.steady n it side (grows.seen n it k)
                  (v.hangs.steady n it (apart_left (order_by ks) (total ks) key value w.fresh n unlike l a r e t.rising q) (w.stands.others n it side (grows.seen n it k)) c));
              hung = λ h.
                  let o = opened_hung h in
                  subst (AreHung m2.heap) (sym is) (v.hangs.hung ((λ c. record { at = at; named = sides.name }), w.stands.hangs.hung o.1, side_kept ks m m1 l (with_entry w.fresh l) w.stands.hangs r standing.2 parted.back o.2));
            };
            others = λ n it p k.
                let unlike : w.fresh ≢ n = λ e. w.is_fresh it (subst (λ x. joint m.heap m.outside x it) (sym e) (grows.seen n it k)) in
                v.others n it (apart_left (order_by ks) (total ks) key value w.fresh n unlike l a r (sym o.order ∙ less) t.rising p) (w.stands.others n it (apart_front n (items l) a (items r) p) (grows.seen n it k));
          };
          fetched = came_then m1 m2 first second no_other w.fetched;
          wing = λ grew.
              let gl = grew_left l (with_entry w.fresh l) a r t.balanced grown (insert_leans (seek (order_by ks) key) (put value) (fresh_item w.fresh key value) l t.balanced.0) (ap height (sym is) ∙ grew) in
              let at_is = last.named at a.name (holds.named at a.name (grows.named at a.name named)) in
              let root_is : IsNamed m2.heap top.root a.name = subst (λ u. IsLinked m2.heap (Some top.root) (root_of u)) gl.plain v.root_is in
              let wing_is = plain (name_at-injective m2.heap top.root at v.here.heap root_is.node.held at_is.node.held (root_is.name ∙ sym at_is.name)) in
              let ends : AreEnds m2.heap (Some (record { left = Some side.root; right = opened.right })) (node (with_entry w.fresh l) a r) =
              (linked_kept m1.heap m2.heap last.named (Some side.root) (root_of (with_entry w.fresh l)) w.stands.root_is, linked_kept m1.heap m2.heap last.named opened.right (root_of r) sides.right_is) in
              let below : AreEnds m2.heap side.wing.sides (with_entry w.fresh l) = ends_kept m1.heap m2.heap last.named side.wing.sides (with_entry w.fresh l) (left_ends m1.heap side.wing (with_entry w.fresh l) (w.wing gl.side).0) in
              subst (λ u. IsLeftWing m2.heap top.wing u × IsRightWing m2.heap top.wing u) (sym (is ∙ gl.plain)) (subst (λ k. IsLeftWing m2.heap k (node (with_entry w.fresh l) a r) × IsRightWing m2.heap k (node (with_entry w.fresh l) a r)) (sym wing_is)
              ((ends, λ lower. absurd (omega (arith, lower, gl.higher))), (ends, λ lower. below)));
        }

    pub put_right : (side top : Entered) → Spares m.heap m1.heap m.outside m1.outside → Spares m1.heap m2.heap m1.outside m2.outside → NoneCome m1.heap m2.heap → Holds m.heap m1.heap → Holds m1.heap m2.heap → Enters ks m m1 r key value side → Balances m1 m2 at opened.left (Some side.root) side.wing top.root
        → (top.root ≡ at → top.wing ≡ record { sides = Some (record { left = opened.left; right = Some side.root }); left = None; right = side.wing.sides })
        → height (node l a r) < 200 → opened.order ≡ Greater → Enters ks old m2 (node l a r) key value top
    put_right side top first second no_other holds last w balances plain low more =
        let e = sym o.order ∙ more in
        let grown = entered_grown (order_by ks) (total ks) key value w.fresh r t.balanced.1 in
        let g = right_given (order_by ks) (total ks) key value w.fresh (rows_of ks m) (rows_of ks m1) (one ks m here) l a r e standing t.rising w.stands.becomes in
        let sides : AreSides ks m1 at opened.left (Some side.root) l a (with_entry w.fresh r) = record {
          given = g;
          here = w.stands.here;
          name = holds.named at a.name (grows.named at a.name named);
          left_is = linked_kept m.heap m1.heap holds.named opened.left (root_of l) o.left;
          right_is = w.stands.root_is;
          left_low = omega (arith, low);
          right_low = omega (arith, grown.high, low);
        } in
        let none : height (with_entry w.fresh r) + 1 < height l → IsLeftWing m1.heap side.wing l = λ tall. absurd (omega (arith, tall, grown.low, t.balanced.2)) in
        let known : height l + 1 < height (with_entry w.fresh r) → IsRightWing m1.heap side.wing (with_entry w.fresh r) = λ tall. (w.wing (omega (arith, tall, grown.high, grown.low, t.balanced.2))).1 in
        let v = balances ks l a (with_entry w.fresh r) sides none known in
        let is = entered_right_is (order_by ks) (total ks) key value w.fresh l a r e in
        record {
          fresh = w.fresh;
          is_fresh = λ it k. w.is_fresh it (grows.seen w.fresh it k);
          stands = record {
            becomes = touched (rows_of ks old) (rows_of ks m) (rows_of ks m2) _ _ (grows.rows ks) (right_entered (order_by ks) (total ks) key value w.fresh (rows_of ks m) (rows_of ks m1) (rows_of ks m2) (λ row k. w.is_fresh k.it (seen_joint m.heap m.outside w.fresh k.it k.there)) l a r e t.rising w.stands.becomes v.becomes);
            here = v.here;
            root_is = subst (λ u. IsLinked m2.heap (Some top.root) (root_of u)) (sym is) v.root_is;
            hangs = record {
              here = λ n k. v.hangs.here n (w.stands.hangs.here n (here_touched old m grows n k));
              steady = λ n it q k c.
                  let unlike : w.fresh ≢ n = λ e. w.is_fresh it (subst (λ x. joint m.heap m.outside x it) (sym e) (grows.seen n it k)) in
                  let side = apart_back n (items l) a (items r) q in
                  steady_touched old m p grows n it k (w.stands.hangs.steady n it side (grows.seen n it k)
                  (v.hangs.steady n it (apart_right (order_by ks) (total ks) key value w.fresh n unlike l a r e t.rising q) (w.stands.others n it side (grows.seen n it k)) c));
              hung = λ h.
                  let o = opened_hung h in
                  subst (AreHung m2.heap) (sym is) (v.hangs.hung ((λ c. record { at = at; named = sides.name }), side_kept ks m m1 r (with_entry w.fresh r) w.stands.hangs l standing.1 parted.across o.1, w.stands.hangs.hung o.2));
            };
            others = λ n it p k.
                let unlike : w.fresh ≢ n = λ e. w.is_fresh it (subst (λ x. joint m.heap m.outside x it) (sym e) (grows.seen n it k)) in
                v.others n it (apart_right (order_by ks) (total ks) key value w.fresh n unlike l a r (sym o.order ∙ more) t.rising p) (w.stands.others n it (apart_back n (items l) a (items r) p) (grows.seen n it k));
          };
          fetched = came_then m1 m2 first second no_other w.fetched;
          wing = λ grew.
              let gr = grew_right l a r (with_entry w.fresh r) t.balanced grown (insert_leans (seek (order_by ks) key) (put value) (fresh_item w.fresh key value) r t.balanced.1) (ap height (sym is) ∙ grew) in
              let at_is = last.named at a.name (holds.named at a.name (grows.named at a.name named)) in
              let root_is : IsNamed m2.heap top.root a.name = subst (λ u. IsLinked m2.heap (Some top.root) (root_of u)) gr.plain v.root_is in
              let wing_is = plain (name_at-injective m2.heap top.root at v.here.heap root_is.node.held at_is.node.held (root_is.name ∙ sym at_is.name)) in
              let ends : AreEnds m2.heap (Some (record { left = opened.left; right = Some side.root })) (node l a (with_entry w.fresh r)) =
              (linked_kept m1.heap m2.heap last.named opened.left (root_of l) sides.left_is, linked_kept m1.heap m2.heap last.named (Some side.root) (root_of (with_entry w.fresh r)) w.stands.root_is) in
              let below : AreEnds m2.heap side.wing.sides (with_entry w.fresh r) = ends_kept m1.heap m2.heap last.named side.wing.sides (with_entry w.fresh r) (right_ends m1.heap side.wing (with_entry w.fresh r) (w.wing gr.side).1) in
              subst (λ u. IsLeftWing m2.heap top.wing u × IsRightWing m2.heap top.wing u) (sym (is ∙ gr.plain)) (subst (λ k. IsLeftWing m2.heap k (node l a (with_entry w.fresh r)) × IsRightWing m2.heap k (node l a (with_entry w.fresh r))) (sym wing_is)
              ((ends, λ lower. below), (ends, λ lower. absurd (omega (arith, lower, gr.higher)))));
        }

    pub put_here : (new : Heap) (at_value : ℕ) (top : Entered) → Spares m.heap new m.outside m.outside → NoneCome m.heap new → top.root ≡ at → name_at m.heap at_value ≡ value → Puts m.heap new m.outside at at_value → opened.order ≡ Equal → Enters ks old (place new m.outside) (node l a r) key value top
    put_here new at_value top spares no_other top_is is_value puts same =
        let e = sym o.order ∙ same in
        let fresh = Local (top_of old.heap) in
        let w : IsWritten (rows_of ks m) a.name (row_of l (put value a) r) (rows_of ks (place new m.outside)) =
        subst (λ v. IsWritten (rows_of ks m) a.name (with_value v (row_of l a r)) (rows_of ks (place new m.outside))) is_value (puts.written ks a.name (row_of l a r) here.single (grows.named at a.name named) standing.0) in
        record {
          fresh = fresh;
          is_fresh = λ it k. name-fresh old.heap (Stored old.outside) it p.heap k;
          stands = record {
            becomes = touched (rows_of ks old) (rows_of ks m) (rows_of ks (place new m.outside)) _ _ (grows.rows ks) (entered_here (order_by ks) (total ks) key value fresh (rows_of ks m) (rows_of ks (place new m.outside)) (one ks m here) l a r e standing t.rising w);
            here = record { heap = puts.heap; single = here.single };
            root_is = subst (λ i. IsLinked new (Some i) (root_of (with_entry fresh (node l a r)))) (sym top_is) (subst (λ u. IsLinked new (Some at) (root_of u)) (sym (entered_here_is (order_by ks) (total ks) key value fresh l a r e)) (puts.named at a.name (grows.named at a.name named)));
            hangs = record {
              here = λ n k. record { at = k.at; named = puts.named k.at n (grows.named k.at n k.named) };
              steady = λ n it q k c. steady_touched old m p grows n it k (puts.steady n (other_name m.heap at n (items l) a (items r) (grows.named at a.name named) q) c);
              hung = λ h.
                  let o = opened_hung h in
                  let kept = plain_hung ks m (place new m.outside) here (λ n k. record { at = k.at; named = puts.named k.at n k.named }) l a r (tree_given ks m l a r standing t.rising)
                  (λ n it q k c. puts.steady n (λ e. q.0 (sym (e ∙ (grows.named at a.name named).name))) c) (record { at = at; named = puts.named at a.name (grows.named at a.name named) }) o in
                  subst (AreHung new) (sym (entered_here_is (order_by ks) (total ks) key value fresh l a r e)) ((λ c. record { at = at; named = puts.named at a.name (grows.named at a.name named) }), kept.1, kept.2);
            };
            others = λ n it p k. puts.others here.single n it (other_name m.heap at n (items l) a (items r) (grows.named at a.name named) p) (grows.seen n it k);
          };
          fetched = fetches_then ks old.heap m.heap new old.outside m.outside m.outside grows.leaves.contents spares came (fetches_none ks m.heap new m.outside no_other);
          wing = λ grew. absurd (omega (arith, ap height (entered_here_is (order_by ks) (total ks) key value fresh l a r e), grew));
        }

-- Where the root of a tree is.
pub root_named : (heap : Heap) (root : Option ℕ) (at : ℕ) (n : Reference) → root ≡ Some at → IsLinked heap root (Some n) → IsNamed heap at n
root_named heap root at n e h = subst (λ s. IsLinked heap s (Some n)) e h

pub no_root : (heap : Heap) (root : Option ℕ) (at : ℕ) → root ≡ Some at → IsLinked heap root None → ⊥
no_root heap root at e h = subst (λ s. IsLinked heap s None) e h

-- what was entered, under the names of before
pub entered_as : (ks : Keys) (old new : Place) (root : Option ℕ) (bound : ℕ) (key wanted : KeyOf ks) (span : Span) (value name : Reference) (result : Result Entered SwizzleFault) → key ≡ wanted → value ≡ name
    → EntersAt ks old new root bound key span value result → EntersAt ks old new root bound wanted span name result
entered_as ks old new root bound key wanted span value name result e f w = subst (λ v. EntersAt ks old new root bound wanted span v result) f (subst (λ k. EntersAt ks old new root bound k span value result) e w)

-- Whether the key was new.
pub counted_leaf : (ks : Keys) (key : KeyOf ks) (p : Place) (root : Option ℕ) → root ≡ None → (t : Tree (I ks)) → IsTree ks p root t → true ≡ is_missing (lookup (seek (order_by ks) key) t)
unfolding lookup
counted_leaf ks key p root e leaf h = refl
counted_leaf ks key p root e (node x b y) h = absurd (subst (λ s. IsLinked p.heap s (Some b.name)) e h.root_is)

module _ (ks : Keys) (key : KeyOf ks) (old m : Place) (root side : Option ℕ) (bound : ℕ) (grows : Touches old m) (x : Tree (I ks)) (b : I ks) (y : Tree (I ks)) (h : IsTree ks old root (node x b y)) (low : bound ≡ height (node x b y)) (wanted : KeyOf ks) (same : wanted ≡ key) (span : Span) (entered : Entered)
    (counted : IsCountedAt ks m side bound wanted span (Ok entered)) where
  pub counted_left : IsLinked m.heap side (root_of x) → IsWithin ks m.heap span (items x) → order_by ks key b.entry.key ≡ Less → entered.made ≡ is_missing (lookup (seek (order_by ks) key) (node x b y))
  counted_left linked within less =
      subst (λ k. entered.made ≡ is_missing (lookup (seek (order_by ks) k) x)) same (counted x (tree_left ks old m root side grows x b y h linked) within (omega (arith, low)))
      ∙ ap is_missing (sym (lookup_left ks key x b y less))

  pub counted_right : IsLinked m.heap side (root_of y) → IsWithin ks m.heap span (items y) → order_by ks key b.entry.key ≡ Greater → entered.made ≡ is_missing (lookup (seek (order_by ks) key) (node x b y))
  counted_right linked within more =
      subst (λ k. entered.made ≡ is_missing (lookup (seek (order_by ks) k) y)) same (counted y (tree_right ks old m root side grows x b y h linked) within (omega (arith, low)))
      ∙ ap is_missing (sym (lookup_right ks key x b y more))

pub counted_here : (ks : Keys) (key : KeyOf ks) (x : Tree (I ks)) (b : I ks) (y : Tree (I ks)) → order_by ks key b.entry.key ≡ Equal → false ≡ is_missing (lookup (seek (order_by ks) key) (node x b y))
counted_here ks key x b y same = ap is_missing (sym (lookup_here ks key x b y same))

pub fault_after : (old mid : Heap) (a b : Outside Space) (fault : SwizzleFault) → Grows old mid a b → IsEnterFault mid b fault → IsEnterFault old a fault
fault_after old mid a b fault g (inl w) = inl (fetch_back old mid a b fault g w)
fault_after old mid a b (AreaFull top wanted size) g (inr w) = inr (omega (arith, w.0, g.keeps.top), w.1 ∙ g.keeps.size, w.2, w.3)
fault_after old mid a b (Vault fault) g (inr w) = inr w
