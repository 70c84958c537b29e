-- A key is taken out of the tree of a node.
use Rattle.std.proofs.Common.{true, false, ◌≢◌, ◌≡◌, ℕ, ◌<◌, ◌≤◌, ◌+◌, ◌∷◌, Option, Some, None, Result, Ok, Err, refl, sym, ap, ◌∙◌, subst, arith}
use Rattle.std.specs.declared.cmp.Ordering.TheVariants.{Less, Equal, Greater}
use Rattle.heap_places.specs.ps_outside.Outside.{SameContents}
use Rattle.heap_places.specs.obj_layout.declared.reference.Reference.{Reference}
use Rattle.heap_places.specs.swizzle.declared.fault.SwizzleFault.{SwizzleFault}
use Rattle.heap_places.specs.swizzle.Heap.{Heap}
use Rattle.heap_places.specs.swizzle.Touch.{Keeps}
use Rattle.avl_trees.specs.Trees.{Tree, leaf, node, height, items, balance, least, rest, merge, remove, lookup}
use Rattle.avl_trees.specs.Standing.{Stands, Given, Becomes, IsApart, root_of, seek}
use Rattle.avl_trees.proofs.Balanced.{rest_shrunk, remove_shrunk}
use Rattle.avl_trees.proofs.Standing.{stands_grown}
use Rattle.avl_trees.proofs.Turning.{touched}
use Rattle.avl_trees.proofs.Items.{rest_items}
use Rattle.avl_trees.proofs.Ordered.{all_back, all_both}
use Rattle.avl_trees.proofs.Removing.{apart_left, apart_right, taken_here, taken_given, taken_above, merged_left, merged_right, merged_given, merged_both, left_removed_given, left_removed, right_removed_given, right_removed, removed_left_is, removed_right_is, removed_here_is}
use Rattle.node_rows.specs.Keys.{Keys, KeyOf, order_by}
use Rattle.table_nodes.specs.Nodes.{IsHere, IsNamed, IsLinked, IsFetchFault}
use Rattle.node_rows.specs.Nodes.{I}
use Rattle.table_nodes.specs.Steps.{Place, IsPlace, StayBeside, rows_of, AreSides, StandsAt, Holds, Touches}
use Rattle.table_nodes.specs.Searching.{IsTree}
use Rattle.table_nodes.specs.Entering.{IsOpened, is_missing}
use Rattle.table_nodes.specs.Spans.{IsSpan, IsWithin}
use Rattle.table_nodes.specs.Bringing.{NoneCome}
use Rattle.table_nodes.specs.Fetching.{Fetches}
use Rattle.table_nodes.specs.Hanging.{AreHung, Hangs}
use Rattle.table_nodes.specs.Sparing.{Spares}
use Rattle.table_nodes.specs.Wings.{IsLeftWing, IsRightWing}
use Rattle.table_nodes.specs.declared.wing.Wing.{Wing}
use Rattle.table_nodes.proofs.WingLaws.{left_wing_kept, right_wing_kept}
use Rattle.table_nodes.specs.Removing.{IsGoneAt, IsTaken, Leaves, Merges, Removes}
use Rattle.table_nodes.specs.declared.opening.Opened.{Opened}
use Rattle.table_nodes.specs.declared.span.Span.{Span}
use Rattle.table_nodes.specs.declared.remove.Least.{Least}
use Rattle.table_nodes.specs.declared.remove.Removed.{Removed}
use Rattle.table_nodes.proofs.FetchLaws.{fetches_none, fetches_same, fetches_then}
use Rattle.table_nodes.proofs.HangLaws.{Parted, hangs_part, hangs_touched, here_touched, hung_touched, side_kept, steady_touched, tree_parted}
use Rattle.table_nodes.proofs.KeyLaws.{total}
use Rattle.table_nodes.proofs.Sparing.{spares_then}
use Rattle.table_nodes.proofs.SeenLaws.{fetch_back}
use Rattle.table_nodes.proofs.Putting.{tree_left, tree_right}
use Rattle.table_nodes.proofs.SpanLaws.{within_kept}
use Rattle.table_nodes.proofs.Seeking.{lookup_here, lookup_left, lookup_right}
use Rattle.table_nodes.proofs.StepLaws.{one, linked_kept, place_touched, apart_front, apart_back}

pub tree_grown : (ks : Keys) (old m : Place) (at : ℕ) (root : Option ℕ) → Touches old m → (l : Tree (I ks)) (a : I ks) (r : Tree (I ks)) → IsNamed old.heap at a.name → IsTree ks old root (node l a r) → IsTree ks m (Some at) (node l a r)
tree_grown ks old m at root grows l a r named h =
    record { stands = stands_grown (rows_of ks old) (rows_of ks m) (grows.rows ks) (node l a r) h.stands; root_is = grows.named at a.name named; rising = h.rising; balanced = h.balanced; values = h.values }

pub leaves_touched : (ks : Keys) (old m new : Place) → Touches old m → Fetches ks old.heap m.heap old.outside → Spares m.heap new.heap m.outside new.outside → IsPlace old → (before t : Tree (I ks)) (root : Option ℕ) → Stands (rows_of ks old) before → Leaves ks m new before t root → Leaves ks old new before t root
leaves_touched ks old m new grows came spares p before t root s w = record { hangs = hangs_touched ks old m new p grows before t s w.hangs; fetched = fetches_then ks old.heap m.heap new.heap old.outside m.outside new.outside grows.leaves.contents spares came w.fetched; becomes = touched (rows_of ks old) (rows_of ks m) (rows_of ks new) (items before) t (grows.rows ks) w.becomes; here = w.here; root_is = w.root_is; others = λ n it a k. w.others n it a (grows.seen n it k) }

pub opened_kept : (ks : Keys) (a b : Heap) → ((at : ℕ) (n : Reference) → IsNamed a at n → IsNamed b at n) → Keeps a b → (key : KeyOf ks) (x : Tree (I ks)) (i : I ks) (y : Tree (I ks)) (opened : Opened) → IsSpan a opened.span → IsOpened ks a key x i y opened → IsOpened ks b key x i y opened
opened_kept ks a b f keeps key x i y opened span o = record {
  order = o.order;
  left = linked_kept a b f opened.left (root_of x) o.left;
  right = linked_kept a b f opened.right (root_of y) o.right;
  left_keys = λ e. within_kept ks a b opened.span (items x) keeps span (o.left_keys e);
  right_keys = λ e. within_kept ks a b opened.span (items y) keeps span (o.right_keys e);
}

-- what came into the area on the way down and on the way up
came_then : (ks : Keys) (old m m1 m2 : Place) → Touches old m → Fetches ks old.heap m.heap old.outside → Spares m.heap m1.heap m.outside m1.outside → Spares m1.heap m2.heap m1.outside m2.outside → NoneCome m1.heap m2.heap
    → Fetches ks m.heap m1.heap m.outside → Fetches ks old.heap m2.heap old.outside
came_then ks old m m1 m2 grows came first second none f =
    fetches_then ks old.heap m.heap m2.heap old.outside m.outside m2.outside grows.leaves.contents (spares_then m.heap m1.heap m2.heap m.outside m1.outside m2.outside first second) came
    (fetches_then ks m.heap m1.heap m2.heap m.outside m1.outside m2.outside first.contents second f (fetches_none ks m1.heap m2.heap m1.outside none))

-- The least node.

module _ (ks : Keys) where
  pub least_here : (old m : Place) (at : ℕ) (root right : Option ℕ) → Touches old m → Fetches ks old.heap m.heap old.outside → (a : I ks) (r : Tree (I ks)) → IsPlace old → IsTree ks old root (node leaf a r) → IsNamed old.heap at a.name → IsLinked m.heap right (root_of r) → IsTaken ks old m leaf a r (record { node = at; rest = right })
  unfolding least rest
  least_here old m at root right grows came a r p h name right_is =
      let w = taken_here (order_by ks) (total ks) (rows_of ks m) a r (stands_grown (rows_of ks old) (rows_of ks m) (grows.rows ks) (node leaf a r) h.stands) in
      record {
        taken = record { has = w.has; becomes = touched (rows_of ks old) (rows_of ks m) (rows_of ks m) (items (node leaf a r)) r (grows.rows ks) w.becomes };
        here = place_touched old m grows p;
        node_is = grows.named at a.name name;
        rest_is = right_is;
        others = λ n it p k. grows.seen n it k;
        fetched = came;
        hangs = record { here = here_touched old m grows; steady = λ n it q k c. steady_touched old m p grows n it k c; hung = λ t. hung_touched ks old m p grows r h.stands.2 t.2 };
      }

  module _ (old m m1 : Place) (at : ℕ) (root right : Option ℕ) (grows : Touches old m) (holds : Holds m.heap m1.heap) (x : Tree (I ks)) (b : I ks) (y : Tree (I ks)) (a : I ks) (r : Tree (I ks)) (p : IsPlace old) (h : IsTree ks old root (node (node x b y) a r))
      (name : IsNamed old.heap at a.name) (right_is : IsLinked m.heap right (root_of r)) (found : Least) (w : IsTaken ks m m1 x b y found) where
    stands_m : Stands (rows_of ks m) (node (node x b y) a r)
    stands_m = stands_grown (rows_of ks old) (rows_of ks m) (grows.rows ks) (node (node x b y) a r) h.stands

    given : Given (order_by ks) (rows_of ks m1) (rest x b y) a r
    given = taken_given (order_by ks) (total ks) (rows_of ks m) (rows_of ks m1) (one ks m (place_touched old m grows p)) x b y a r stands_m h.rising w.taken

    pub least_sides : height (node (node x b y) a r) < 200 → AreSides ks m1 at found.rest right (rest x b y) a r
    least_sides low =
        let s = rest_shrunk x b y h.balanced.0 in
        record {
          given = given;
          here = w.here;
          name = holds.named at a.name (grows.named at a.name name);
          left_is = w.rest_is;
          right_is = linked_kept m.heap m1.heap holds.named right (root_of r) right_is;
          left_low = omega (arith, s.low, low);
          right_low = omega (arith, low);
        }

    pub least_known : (wing : Wing) → (height (node x b y) < height r → IsRightWing m.heap wing r) → (height r + 1 < height (rest x b y) → IsLeftWing m1.heap wing (rest x b y)) × (height (rest x b y) + 1 < height r → IsRightWing m1.heap wing r)
    least_known wing known =
        let s = rest_shrunk x b y h.balanced.0 in
        (λ tall. absurd (omega (arith, tall, s.low, h.balanced.2)), λ tall. right_wing_kept m.heap m1.heap holds.named wing r (known (omega (arith, tall, s.high))))

    pub least_above : (m2 : Place) (top : ℕ) → Fetches ks old.heap m.heap old.outside → Spares m.heap m1.heap m.outside m1.outside → Spares m1.heap m2.heap m1.outside m2.outside → NoneCome m1.heap m2.heap → Holds m1.heap m2.heap → StandsAt ks m1 m2 (node (rest x b y) a r) (balance (rest x b y) a r) top → IsTaken ks old m2 (node x b y) a r (record { node = found.node; rest = Some top })
    unfolding least rest
    least_above m2 top came first second none kept v =
        let t = taken_above (order_by ks) (total ks) (rows_of ks m) (rows_of ks m1) (rows_of ks m2) (one ks m1 w.here) x b y a r h.rising w.taken given v.becomes in
        record {
          taken = record { has = t.has; becomes = touched (rows_of ks old) (rows_of ks m) (rows_of ks m2) _ _ (grows.rows ks) t.becomes };
          here = v.here;
          node_is = kept.named found.node (least x b).name w.node_is;
          rest_is = v.root_is;
          fetched = came_then ks old m m1 m2 grows came first second none w.fetched;
          hangs = record {
            here = λ n k. v.hangs.here n (w.hangs.here n (here_touched old m grows n k));
            steady = λ n it q k c.
                let side = apart_front n (items (node x b y)) a (items r) q in
                let left : IsApart n (items (rest x b y)) = (subst (IsApart n) (sym (rest_items x b y)) side).1 in
                steady_touched old m p grows n it k (w.hangs.steady n it side (grows.seen n it k)
                (v.hangs.steady n it (all_both (λ i. i.name ≢ n) (items (rest x b y)) (a ∷ items r) left (all_back (λ i. i.name ≢ n) (items (node x b y)) (a ∷ items r) q)) (w.others n it side (grows.seen n it k)) c));
            hung = λ t.
                let o = hung_touched ks old m p grows (node (node x b y) a r) h.stands t in
                let parted = tree_parted ks m (place_touched old m grows p) (node x b y) a r stands_m h.rising in
                v.hangs.hung ((λ c. record { at = at; named = holds.named at a.name (grows.named at a.name name) }), w.hangs.hung o.1, side_kept ks m m1 (node x b y) (rest x b y) w.hangs r stands_m.2 parted.back o.2);
          };
          others = λ n it p k.
              let side = apart_front n (items (node x b y)) a (items r) p in
              let left : IsApart n (items (rest x b y)) = (subst (IsApart n) (sym (rest_items x b y)) side).1 in
              v.others n it (all_both (λ i. i.name ≢ n) (items (rest x b y)) (a ∷ items r) left (all_back (λ i. i.name ≢ n) (items (node x b y)) (a ∷ items r) p)) (w.others n it side (grows.seen n it k));
        }

  -- Both sides without the node between them.

  pub merge_left : (old : Place) (left right : Option ℕ) (at : ℕ) → right ≡ None → (l : Tree (I ks)) (a : I ks) (r : Tree (I ks)) → IsPlace old → IsTree ks old (Some at) (node l a r) → IsLinked old.heap left (root_of l) → IsLinked old.heap right (root_of r)
      → Leaves ks old old (node l a r) (merge l r) left
  unfolding merge
  merge_left old left right at none l a leaf p h e f = record { becomes = merged_left (order_by ks) (total ks) (rows_of ks old) l a h.stands; here = p; root_is = e; hangs = hangs_part ks old (node l a leaf) l (λ t. t.1); others = λ n it q k. k; fetched = fetches_same ks old.heap old.heap old.outside refl }
  merge_left old left right at none l a (node x b y) p h e f = absurd (subst (λ s. IsLinked old.heap s (Some b.name)) none f)

  pub merge_right : (old : Place) (left right : Option ℕ) (at above : ℕ) → left ≡ None → right ≡ Some above → (l : Tree (I ks)) (a : I ks) (r : Tree (I ks)) → IsPlace old → IsTree ks old (Some at) (node l a r) → IsLinked old.heap left (root_of l) → IsLinked old.heap right (root_of r)
      → Leaves ks old old (node l a r) (merge l r) right
  unfolding merge
  merge_right old left right at above none some (node u d v) a r p h e f = absurd (subst (λ s. IsLinked old.heap s (Some d.name)) none e)
  merge_right old left right at above none some leaf a leaf p h e f = absurd (subst (λ s. IsLinked old.heap s None) some f)
  merge_right old left right at above none some leaf a (node x b y) p h e f = record { becomes = merged_right (order_by ks) (total ks) (rows_of ks old) a x b y h.stands; here = p; root_is = f; hangs = hangs_part ks old (node leaf a (node x b y)) (node x b y) (λ t. t.2); others = λ n it q k. k; fetched = fetches_same ks old.heap old.heap old.outside refl }

  module _ (old m1 : Place) (at below : ℕ) (holds : Holds old.heap m1.heap) (u : Tree (I ks)) (d : I ks) (v : Tree (I ks)) (a : I ks) (x : Tree (I ks)) (b : I ks) (y : Tree (I ks)) (p : IsPlace old) (h : IsTree ks old (Some at) (node (node u d v) a (node x b y)))
      (left_is : IsNamed old.heap below d.name) (found : Least) (w : IsTaken ks old m1 x b y found) where
    pub merge_sides_of : height (node (node u d v) a (node x b y)) ≤ 200 → AreSides ks m1 found.node (Some below) found.rest (node u d v) (least x b) (rest x b y)
    merge_sides_of low =
        let s = rest_shrunk x b y h.balanced.1 in
        record {
          given = merged_given (order_by ks) (total ks) (rows_of ks old) (rows_of ks m1) (one ks old p) (node u d v) a x b y h.stands h.rising w.taken;
          here = w.here;
          name = w.node_is;
          left_is = holds.named below d.name left_is;
          right_is = w.rest_is;
          left_low = omega (arith, low);
          right_low = omega (arith, s.low, low);
        }

    pub merge_known : (wing : Wing) → (height (node x b y) < height (node u d v) → IsLeftWing old.heap wing (node u d v))
        → (height (rest x b y) + 1 < height (node u d v) → IsLeftWing m1.heap wing (node u d v)) × (height (node u d v) + 1 < height (rest x b y) → IsRightWing m1.heap wing (rest x b y))
    merge_known wing known =
        let s = rest_shrunk x b y h.balanced.1 in
        (λ tall. left_wing_kept old.heap m1.heap holds.named wing (node u d v) (known (omega (arith, tall, s.high))), λ tall. absurd (omega (arith, tall, s.low, h.balanced.2)))

    pub merge_done : (m2 : Place) (top : ℕ) → Spares m1.heap m2.heap m1.outside m2.outside → NoneCome m1.heap m2.heap → SameContents old.outside m1.outside → StandsAt ks m1 m2 (node (node u d v) (least x b) (rest x b y)) (balance (node u d v) (least x b) (rest x b y)) top
        → Leaves ks old m2 (node (node u d v) a (node x b y)) (merge (node u d v) (node x b y)) (Some top)
    unfolding merge
    merge_done m2 top second none same z = record { fetched = fetches_then ks old.heap m1.heap m2.heap old.outside m1.outside m2.outside same second w.fetched (fetches_none ks m1.heap m2.heap m1.outside none); becomes = merged_both (order_by ks) (total ks) (rows_of ks old) (rows_of ks m1) (rows_of ks m2) u d v a x b y w.taken z.becomes; here = z.here; root_is = z.root_is; hangs = hangs; others = others }
      where
        hangs : Hangs ks old.heap m2.heap old.outside (node (node u d v) a (node x b y)) (balance (node u d v) (least x b) (rest x b y))
        hangs = record {
          here = λ n k. z.hangs.here n (w.hangs.here n k);
          steady = λ n it q k c.
              let side = apart_back n (items (node u d v)) a (items (node x b y)) q in
              let all = all_both (λ i. i.name ≢ n) (items (node u d v)) (least x b ∷ items (rest x b y)) (apart_front n (items (node u d v)) a (items (node x b y)) q) (subst (IsApart n) (sym (rest_items x b y)) side) in
              w.hangs.steady n it side k (z.hangs.steady n it all (w.others n it side k) c);
          hung = λ t.
              let parted = tree_parted ks old p (node u d v) a (node x b y) h.stands h.rising in
              z.hangs.hung ((λ c. record { at = found.node; named = w.node_is }), side_kept ks old m1 (node x b y) (rest x b y) w.hangs (node u d v) h.stands.1 parted.across t.1, w.hangs.hung t.2);
        }

        others : StayBeside ks old m2 (items (node (node u d v) a (node x b y)))
        others n it q k =
            let side = apart_back n (items (node u d v)) a (items (node x b y)) q in
            let all = all_both (λ i. i.name ≢ n) (items (node u d v)) (least x b ∷ items (rest x b y)) (apart_front n (items (node u d v)) a (items (node x b y)) q) (subst (IsApart n) (sym (rest_items x b y)) side) in
            z.others n it all (w.others n it side k)

-- A level of the way up.

module _ (ks : Keys) (key : KeyOf ks) where
  abbrev removed : Tree (I ks) → Tree (I ks)
  removed t = remove (seek (order_by ks) key) t

  pub remove_leaf : (old : Place) (root : Option ℕ) → root ≡ None → (t : Tree (I ks)) → IsPlace old → IsTree ks old root t → Leaves ks old old t (removed t) None
  unfolding remove
  remove_leaf old root e leaf p h = record { becomes = record { stands = tt; stays = λ n row p k. k }; here = p; root_is = tt; hangs = hangs_part ks old leaf leaf (λ t. t); others = λ n it q k. k; fetched = fetches_same ks old.heap old.heap old.outside refl }
  remove_leaf old root e (node l a r) p h = absurd (subst (λ s. IsLinked old.heap s (Some a.name)) e h.root_is)

  module _ (old m m1 : Place) (at : ℕ) (root : Option ℕ) (opened : Opened) (grows : Touches old m) (p : IsPlace old) (l : Tree (I ks)) (a : I ks) (r : Tree (I ks)) (h : IsTree ks old root (node l a r)) (name : IsNamed old.heap at a.name) (o : IsOpened ks m.heap key l a r opened)
      (came : Fetches ks old.heap m.heap old.outside) where
    stands_opened : Stands (rows_of ks m) (node l a r)
    stands_opened = stands_grown (rows_of ks old) (rows_of ks m) (grows.rows ks) (node l a r) h.stands

    here : IsPlace m
    here = place_touched old m grows p

    -- the nodes on both sides hang together after touches
    opened_hung : AreHung old.heap (node l a r) → AreHung m.heap (node l a r)
    opened_hung t = hung_touched ks old m p grows (node l a r) h.stands t

    parted : Parted (items l) a (items r)
    parted = tree_parted ks m here l a r stands_opened h.rising

    root_here : IsHere m.heap a.name
    root_here = record { at = at; named = grows.named at a.name name }

    pub left_sides : (side : Option ℕ) → Holds m.heap m1.heap → height (node l a r) < 200 → opened.order ≡ Less → Leaves ks m m1 l (removed l) side → AreSides ks m1 at side opened.right (removed l) a r
    left_sides side holds low less w =
        let s = remove_shrunk (seek (order_by ks) key) l h.balanced.0 in
        record {
          given = left_removed_given (order_by ks) (total ks) key (rows_of ks m) (rows_of ks m1) (one ks m here) l a r (sym o.order ∙ less) stands_opened h.rising w.becomes;
          here = w.here;
          name = holds.named at a.name (grows.named at a.name name);
          left_is = w.root_is;
          right_is = linked_kept m.heap m1.heap holds.named opened.right (root_of r) o.right;
          left_low = omega (arith, s.low, low);
          right_low = omega (arith, low);
        }

    pub left_known : (wing : Wing) → Holds m.heap m1.heap → (height l < height r → IsRightWing m.heap wing r) → (height r + 1 < height (removed l) → IsLeftWing m1.heap wing (removed l)) × (height (removed l) + 1 < height r → IsRightWing m1.heap wing r)
    left_known wing holds known =
        let s = remove_shrunk (seek (order_by ks) key) l h.balanced.0 in
        (λ tall. absurd (omega (arith, tall, s.low, h.balanced.2)), λ tall. right_wing_kept m.heap m1.heap holds.named wing r (known (omega (arith, tall, s.high))))

    pub right_known : (wing : Wing) → Holds m.heap m1.heap → (height r < height l → IsLeftWing m.heap wing l) → (height (removed r) + 1 < height l → IsLeftWing m1.heap wing l) × (height l + 1 < height (removed r) → IsRightWing m1.heap wing (removed r))
    right_known wing holds known =
        let s = remove_shrunk (seek (order_by ks) key) r h.balanced.1 in
        (λ tall. left_wing_kept m.heap m1.heap holds.named wing l (known (omega (arith, tall, s.high))), λ tall. absurd (omega (arith, tall, s.low, h.balanced.2)))

    pub left_done : (m2 : Place) (side : Option ℕ) (top : ℕ) → Spares m.heap m1.heap m.outside m1.outside → Spares m1.heap m2.heap m1.outside m2.outside → NoneCome m1.heap m2.heap → opened.order ≡ Less → Leaves ks m m1 l (removed l) side
        → StandsAt ks m1 m2 (node (removed l) a r) (balance (removed l) a r) top → Leaves ks old m2 (node l a r) (removed (node l a r)) (Some top)
    left_done m2 side top first second none less w v =
        let e = sym o.order ∙ less in
        record {
          becomes = touched (rows_of ks old) (rows_of ks m) (rows_of ks m2) _ _ (grows.rows ks) (left_removed (order_by ks) (total ks) key (rows_of ks m) (rows_of ks m1) (rows_of ks m2) l a r e h.rising w.becomes v.becomes);
          here = v.here;
          root_is = subst (λ u. IsLinked m2.heap (Some top) (root_of u)) (sym (removed_left_is (order_by ks) (total ks) key l a r e)) v.root_is;
          fetched = came_then ks old m m1 m2 grows came first second none w.fetched;
          hangs = record {
            here = λ n k. v.hangs.here n (w.hangs.here n (here_touched old m grows n k));
            steady = λ n it q k c.
                let side = apart_front n (items l) a (items r) q in
                steady_touched old m p grows n it k (w.hangs.steady n it side (grows.seen n it k) (v.hangs.steady n it (apart_left (order_by ks) (total ks) key n l a r e h.rising q) (w.others n it side (grows.seen n it k)) c));
            hung = λ t.
                let o = opened_hung t in
                subst (AreHung m2.heap) (sym (removed_left_is (order_by ks) (total ks) key l a r e)) (v.hangs.hung ((λ c. w.hangs.here a.name root_here), w.hangs.hung o.1, side_kept ks m m1 l (removed l) w.hangs r stands_opened.2 parted.back o.2));
          };
          others = λ n it q k. v.others n it (apart_left (order_by ks) (total ks) key n l a r e h.rising q) (w.others n it (apart_front n (items l) a (items r) q) (grows.seen n it k));
        }

    pub right_sides : (side : Option ℕ) → Holds m.heap m1.heap → height (node l a r) < 200 → opened.order ≡ Greater → Leaves ks m m1 r (removed r) side → AreSides ks m1 at opened.left side l a (removed r)
    right_sides side holds low more w =
        let s = remove_shrunk (seek (order_by ks) key) r h.balanced.1 in
        record {
          given = right_removed_given (order_by ks) (total ks) key (rows_of ks m) (rows_of ks m1) (one ks m here) l a r (sym o.order ∙ more) stands_opened h.rising w.becomes;
          here = w.here;
          name = holds.named at a.name (grows.named at a.name name);
          left_is = linked_kept m.heap m1.heap holds.named opened.left (root_of l) o.left;
          right_is = w.root_is;
          left_low = omega (arith, low);
          right_low = omega (arith, s.low, low);
        }

    pub right_done : (m2 : Place) (side : Option ℕ) (top : ℕ) → Spares m.heap m1.heap m.outside m1.outside → Spares m1.heap m2.heap m1.outside m2.outside → NoneCome m1.heap m2.heap → opened.order ≡ Greater → Leaves ks m m1 r (removed r) side
        → StandsAt ks m1 m2 (node l a (removed r)) (balance l a (removed r)) top → Leaves ks old m2 (node l a r) (removed (node l a r)) (Some top)
    right_done m2 side top first second none more w v =
        let e = sym o.order ∙ more in
        record {
          becomes = touched (rows_of ks old) (rows_of ks m) (rows_of ks m2) _ _ (grows.rows ks) (right_removed (order_by ks) (total ks) key (rows_of ks m) (rows_of ks m1) (rows_of ks m2) l a r e h.rising w.becomes v.becomes);
          here = v.here;
          root_is = subst (λ u. IsLinked m2.heap (Some top) (root_of u)) (sym (removed_right_is (order_by ks) (total ks) key l a r e)) v.root_is;
          fetched = came_then ks old m m1 m2 grows came first second none w.fetched;
          hangs = record {
            here = λ n k. v.hangs.here n (w.hangs.here n (here_touched old m grows n k));
            steady = λ n it q k c.
                let side = apart_back n (items l) a (items r) q in
                steady_touched old m p grows n it k (w.hangs.steady n it side (grows.seen n it k) (v.hangs.steady n it (apart_right (order_by ks) (total ks) key n l a r e h.rising q) (w.others n it side (grows.seen n it k)) c));
            hung = λ t.
                let o = opened_hung t in
                subst (AreHung m2.heap) (sym (removed_right_is (order_by ks) (total ks) key l a r e)) (v.hangs.hung ((λ c. w.hangs.here a.name root_here), side_kept ks m m1 r (removed r) w.hangs l stands_opened.1 parted.across o.1, w.hangs.hung o.2));
          };
          others = λ n it q k. v.others n it (apart_right (order_by ks) (total ks) key n l a r e h.rising q) (w.others n it (apart_back n (items l) a (items r) q) (grows.seen n it k));
        }

    pub here_done : (top : Option ℕ) (bound : ℕ) → Spares m.heap m1.heap m.outside m1.outside → bound ≡ height (node l a r) → opened.order ≡ Equal → Merges m m1 opened.left opened.right bound (Ok top) → Leaves ks old m1 (node l a r) (removed (node l a r)) top
    here_done top bound spares high same merges =
        let v = merges ks at l a r here (tree_grown ks old m at root grows l a r name h) o.left o.right (omega (arith, high)) in
        let e = removed_here_is (order_by ks) (total ks) key l a r (sym o.order ∙ same) in
        record {
          becomes = touched (rows_of ks old) (rows_of ks m) (rows_of ks m1) _ _ (grows.rows ks) (subst (λ t. Becomes (rows_of ks m) (rows_of ks m1) (items (node l a r)) t) (sym e) v.becomes);
          here = v.here;
          root_is = subst (λ u. IsLinked m1.heap top (root_of u)) (sym e) v.root_is;
          fetched = fetches_then ks old.heap m.heap m1.heap old.outside m.outside m1.outside grows.leaves.contents spares came v.fetched;
          hangs = subst (λ t. Hangs ks old.heap m1.heap old.outside (node l a r) t) (sym e) (hangs_touched ks old m m1 p grows (node l a r) (merge l r) h.stands v.hangs);
          others = λ n it q k. v.others n it q (grows.seen n it k);
        }

    pub here_fault : (fault : SwizzleFault) (bound : ℕ) → bound ≡ height (node l a r) → Merges m m1 opened.left opened.right bound (Err fault) → IsFetchFault old.heap old.outside fault
    here_fault fault bound high merges = fetch_back old.heap m.heap old.outside m.outside fault grows (merges ks at l a r here (tree_grown ks old m at root grows l a r name h) o.left o.right (omega (arith, high)))

-- what was taken out, by the key of before
pub removed_as : (ks : Keys) (old new : Place) (root : Option ℕ) (bound : ℕ) (key wanted : KeyOf ks) (span : Span) (result : Result Removed SwizzleFault) → key ≡ wanted → Removes ks old new root bound key span result → Removes ks old new root bound wanted span result
removed_as ks old new root bound key wanted span result e w = subst (λ k. Removes ks old new root bound k span result) e w

-- Whether the tree had the key.
pub gone_leaf : (ks : Keys) (key : KeyOf ks) (p : Place) (root : Option ℕ) → root ≡ None → (t : Tree (I ks)) → IsTree ks p root t → false ≢ is_missing (lookup (seek (order_by ks) key) t)
unfolding lookup
gone_leaf ks key p root e leaf h = λ f. cc
gone_leaf ks key p root e (node x b y) h = absurd (subst (λ s. IsLinked p.heap s (Some b.name)) e h.root_is)

module _ (ks : Keys) (key : KeyOf ks) (old m : Place) (root side : Option ℕ) (bound : ℕ) (grows : Touches old m) (x : Tree (I ks)) (b : I ks) (y : Tree (I ks)) (h : IsTree ks old root (node x b y)) where
  pub gone_left : height x < bound → (wanted : KeyOf ks) → wanted ≡ key → (span : Span) (removed : Removed) → IsGoneAt ks m side bound wanted span (Ok removed) → IsLinked m.heap side (root_of x) → IsWithin ks m.heap span (items x) → order_by ks key b.entry.key ≡ Less → removed.gone ≢ is_missing (lookup (seek (order_by ks) key) (node x b y))
  gone_left low wanted same span removed gone linked within less =
      let below = subst (λ k. removed.gone ≢ is_missing (lookup (seek (order_by ks) k) x)) same (gone x (tree_left ks old m root side grows x b y h linked) within low) in
      λ e. below (e ∙ ap is_missing (lookup_left ks key x b y less))

  pub gone_right : height y < bound → (wanted : KeyOf ks) → wanted ≡ key → (span : Span) (removed : Removed) → IsGoneAt ks m side bound wanted span (Ok removed) → IsLinked m.heap side (root_of y) → IsWithin ks m.heap span (items y) → order_by ks key b.entry.key ≡ Greater → removed.gone ≢ is_missing (lookup (seek (order_by ks) key) (node x b y))
  gone_right low wanted same span removed gone linked within more =
      let below = subst (λ k. removed.gone ≢ is_missing (lookup (seek (order_by ks) k) y)) same (gone y (tree_right ks old m root side grows x b y h linked) within low) in
      λ e. below (e ∙ ap is_missing (lookup_right ks key x b y more))

pub gone_here : (ks : Keys) (key : KeyOf ks) (x : Tree (I ks)) (b : I ks) (y : Tree (I ks)) → order_by ks key b.entry.key ≡ Equal → true ≢ is_missing (lookup (seek (order_by ks) key) (node x b y))
gone_here ks key x b y same = λ e. let f = e ∙ ap is_missing (lookup_here ks key x b y same) in absurd (cc)
