-- A turn of two nodes, and one of three.
use Rattle.std.proofs.Common.{ℕ, ◌+◌, ◌≤◌, ◌<◌, sym, ◌∙◌, Option, Some, arith}
use Rattle.std.proofs.lemmas.Bool.{lt-ltb, le-ltb}
use Rattle.avl_trees.specs.Trees.{Tree, node, items, height, lean_left, lean_right, lean_inner, lean_outer, balance}
use Rattle.avl_trees.specs.Standing.{root_of}
use Rattle.avl_trees.proofs.Turning.{touched}
use Rattle.avl_trees.proofs.Turns.{given_grown, turned_right, turned_left, turned_inner, turned_outer}
use Rattle.node_rows.specs.Keys.{Keys, order_by}
use Rattle.table_nodes.specs.Nodes.{IsLinked}
use Rattle.node_rows.specs.Nodes.{I}
use Rattle.table_nodes.specs.Steps.{Place, rows_of, AreSides, AreTurned, AreTurnedOut, StandsAt, SetsSides, Touches}
use Rattle.table_nodes.specs.Turning.{TurnsInner, TurnsOuter, TurnsRight, TurnsLeft}
use Rattle.table_nodes.specs.Wings.{AreEnds, IsLeftWing, IsRightWing}
use Rattle.table_nodes.specs.declared.sides.Sides.{Sides}
use Rattle.table_nodes.specs.declared.wing.Wing.{Wing}
use Rattle.table_nodes.proofs.HangLaws.{inner_hangs, left_hangs, outer_hangs, plain_hangs, right_hangs, three_steady, two_steady}
use Rattle.table_nodes.proofs.KeyLaws.{total}
use Rattle.table_nodes.proofs.StepLaws.{one, linked_kept, place_touched, apart_front, apart_back, other_name}

pub single_right : (ks : Keys) (old m m1 m2 : Place) (at left : ℕ) (outer inner right : Option ℕ) → Touches old m → SetsSides m m1 at inner right → SetsSides m1 m2 left outer (Some at)
    → (x : Tree (I ks)) (b : I ks) (y : Tree (I ks)) (a : I ks) (r : Tree (I ks)) → AreSides ks old at (Some left) right (node x b y) a r → height r + 1 < height (node x b y) → height y ≤ height x
    → IsLinked m.heap outer (root_of x) → IsLinked m.heap inner (root_of y) → StandsAt ks old m2 (node (node x b y) a r) (lean_left (node x b y) a r) left
unfolding lean_left
single_right ks old m m1 m2 at left outer inner right grows s1 s2 x b y a r g tall ge ox iy =
    let here = place_touched old m grows g.here in
    let here1 = s1.here here in
    let an = grows.named at a.name g.name in
    let bn = grows.named left b.name g.left_is in
    let rn = linked_kept old.heap m.heap grows.named right (root_of r) g.right_is in
    let ox1 = linked_kept m.heap m1.heap s1.holds.named outer (root_of x) ox in
    rw (le-ltb (height x) (height y) ge) (record {
      becomes = touched (rows_of ks old) (rows_of ks m) (rows_of ks m2) _ _ (grows.rows ks) (turned_right (order_by ks) (total ks) (rows_of ks m) (rows_of ks m1) (rows_of ks m2) (one ks m here) x b y a r (given_grown (order_by ks) (rows_of ks old) (rows_of ks m) (grows.rows ks) (node x b y) a r g.given)
          (λ k. s1.set ks y a r (record { given = k; here = here; name = an; left_is = iy; right_is = rn; left_low = omega (arith, g.left_low); right_low = g.right_low }))
          (λ k. s2.set ks x b (node y a r) (record { given = k; here = here1; name = s1.holds.named left b.name bn; left_is = ox1; right_is = s1.holds.named at a.name an; left_low = omega (arith, g.left_low); right_low = omega (arith, g.left_low) })));
      hangs = right_hangs ks old m2 g.here (λ n k. record { at = k.at; named = s2.holds.named k.at n (s1.holds.named k.at n (grows.named k.at n k.named)) }) x b y a r g.given
          (λ n it q k c. two_steady old m m1 m2 at left a.name b.name g.here grows s1.steady s2.steady an.name (s1.holds.named left b.name bn).name n it q.0 q.1.0 k c)
          (record { at = at; named = s2.holds.named at a.name (s1.holds.named at a.name an) }) (record { at = left; named = s2.holds.named left b.name (s1.holds.named left b.name bn) });
      here = s2.here here1;
      root_is = s2.holds.named left b.name (s1.holds.named left b.name bn);
      others = λ n it p k.
          s2.others here1 n it (other_name m1.heap left n (items x) b (items y) (s1.holds.named left b.name bn) (apart_front n (items (node x b y)) a (items r) p))
          (s1.others here n it (other_name m.heap at n (items (node x b y)) a (items r) an p) (grows.seen n it k));
    })

pub single_left : (ks : Keys) (old m m1 m2 : Place) (at right : ℕ) (left inner outer : Option ℕ) → Touches old m → SetsSides m m1 at left inner → SetsSides m1 m2 right (Some at) outer
    → (l : Tree (I ks)) (a : I ks) (x : Tree (I ks)) (b : I ks) (y : Tree (I ks)) → AreSides ks old at left (Some right) l a (node x b y) → height l + 1 < height (node x b y) → height x ≤ height y
    → IsLinked m.heap inner (root_of x) → IsLinked m.heap outer (root_of y) → StandsAt ks old m2 (node l a (node x b y)) (lean_right l a (node x b y)) right
unfolding lean_right
single_left ks old m m1 m2 at right left inner outer grows s1 s2 l a x b y g tall ge ix oy =
    let here = place_touched old m grows g.here in
    let here1 = s1.here here in
    let an = grows.named at a.name g.name in
    let bn = grows.named right b.name g.right_is in
    let ln = linked_kept old.heap m.heap grows.named left (root_of l) g.left_is in
    let oy1 = linked_kept m.heap m1.heap s1.holds.named outer (root_of y) oy in
    rw (le-ltb (height y) (height x) ge) (record {
      becomes = touched (rows_of ks old) (rows_of ks m) (rows_of ks m2) _ _ (grows.rows ks) (turned_left (order_by ks) (total ks) (rows_of ks m) (rows_of ks m1) (rows_of ks m2) (one ks m here) l a x b y (given_grown (order_by ks) (rows_of ks old) (rows_of ks m) (grows.rows ks) l a (node x b y) g.given)
          (λ k. s1.set ks l a x (record { given = k; here = here; name = an; left_is = ln; right_is = ix; left_low = g.left_low; right_low = omega (arith, g.right_low) }))
          (λ k. s2.set ks (node l a x) b y (record { given = k; here = here1; name = s1.holds.named right b.name bn; left_is = s1.holds.named at a.name an; right_is = oy1; left_low = omega (arith, g.right_low); right_low = omega (arith, g.right_low) })));
      hangs = left_hangs ks old m2 g.here (λ n k. record { at = k.at; named = s2.holds.named k.at n (s1.holds.named k.at n (grows.named k.at n k.named)) }) l a x b y g.given
          (λ n it q k c. two_steady old m m1 m2 at right a.name b.name g.here grows s1.steady s2.steady an.name (s1.holds.named right b.name bn).name n it q.0 q.1.0 k c)
          (record { at = at; named = s2.holds.named at a.name (s1.holds.named at a.name an) }) (record { at = right; named = s2.holds.named right b.name (s1.holds.named right b.name bn) });
      here = s2.here here1;
      root_is = s2.holds.named right b.name (s1.holds.named right b.name bn);
      others = λ n it p k.
          s2.others here1 n it (other_name m1.heap right n (items x) b (items y) (s1.holds.named right b.name bn) (apart_back n (items l) a (items (node x b y)) p))
          (s1.others here n it (other_name m.heap at n (items l) a (items (node x b y)) an p) (grows.seen n it k));
    })

pub double_inner : (ks : Keys) (old m m1 m2 m3 : Place) (at left middle : ℕ) (outer before after right : Option ℕ) → Touches old m → SetsSides m m1 left outer before → SetsSides m1 m2 at after right → SetsSides m2 m3 middle (Some left) (Some at)
    → (x : Tree (I ks)) (b : I ks) (u : Tree (I ks)) (c : I ks) (v : Tree (I ks)) (a : I ks) (r : Tree (I ks)) → AreTurned ks old at left outer (Some middle) right x b (node u c v) a r
    → IsLinked m.heap before (root_of u) → IsLinked m.heap after (root_of v) → StandsAt ks old m3 (node (node x b (node u c v)) a r) (lean_inner x b (node u c v) a r) middle
unfolding lean_inner
double_inner ks old m m1 m2 m3 at left middle outer before after right grows s1 s2 s3 x b u c v a r g ub vb =
    let here = place_touched old m grows g.here in
    let here1 = s1.here here in
    let here2 = s2.here here1 in
    let an = grows.named at a.name g.at_is in
    let bn = grows.named left b.name g.left_is in
    let cn = grows.named middle c.name g.inner_is in
    let an1 = s1.holds.named at a.name an in
    let rn1 = linked_kept m.heap m1.heap s1.holds.named right (root_of r) (linked_kept old.heap m.heap grows.named right (root_of r) g.right_is) in
    let vb1 = linked_kept m.heap m1.heap s1.holds.named after (root_of v) vb in
    let cn2 = s2.holds.named middle c.name (s1.holds.named middle c.name cn) in
    record {
      becomes = touched (rows_of ks old) (rows_of ks m) (rows_of ks m3) _ _ (grows.rows ks) (turned_inner (order_by ks) (total ks) (rows_of ks m) (rows_of ks m1) (rows_of ks m2) (rows_of ks m3) (one ks m here) (one ks m1 here1) x b u c v a r
          (given_grown (order_by ks) (rows_of ks old) (rows_of ks m) (grows.rows ks) (node x b (node u c v)) a r g.given)
          (λ k. s1.set ks x b u (record { given = k; here = here; name = bn; left_is = linked_kept old.heap m.heap grows.named outer (root_of x) g.outer_is; right_is = ub; left_low = omega (arith, g.low, g.lower); right_low = omega (arith, g.low) }))
          (λ k. s2.set ks v a r (record { given = k; here = here1; name = an1; left_is = vb1; right_is = rn1; left_low = omega (arith, g.low); right_low = omega (arith, g.right_low) }))
          (λ k. s3.set ks (node x b u) c (node v a r) (record { given = k; here = here2; name = cn2; left_is = s2.holds.named left b.name (s1.holds.named left b.name bn); right_is = s2.holds.named at a.name an1; left_low = omega (arith, g.low, g.lower); right_low = omega (arith, g.low, g.right_low) })));
      hangs = inner_hangs ks old m3 g.here (λ n k. record { at = k.at; named = s3.holds.named k.at n (s2.holds.named k.at n (s1.holds.named k.at n (grows.named k.at n k.named))) }) x b u c v a r g.given
          (λ n it q k changed. three_steady old m m1 m2 m3 left at middle b.name a.name c.name g.here grows s1.steady s2.steady s3.steady bn.name an1.name cn2.name n it q.1.0 q.0 q.1.1.0 k changed)
          (record { at = at; named = s3.holds.named at a.name (s2.holds.named at a.name an1) }) (record { at = left; named = s3.holds.named left b.name (s2.holds.named left b.name (s1.holds.named left b.name bn)) })
          (record { at = middle; named = s3.holds.named middle c.name cn2 });
      here = s3.here here2;
      root_is = s3.holds.named middle c.name cn2;
      others = λ n it p k.
          let q = apart_front n (items (node x b (node u c v))) a (items r) p in
          s3.others here2 n it (other_name m2.heap middle n (items u) c (items v) cn2 (apart_back n (items x) b (items (node u c v)) q))
          (s2.others here1 n it (other_name m1.heap at n (items (node x b (node u c v))) a (items r) an1 p)
          (s1.others here n it (other_name m.heap left n (items x) b (items (node u c v)) bn q) (grows.seen n it k)));
    }

pub double_outer : (ks : Keys) (old m m1 m2 m3 : Place) (at right middle : ℕ) (left before after outer : Option ℕ) → Touches old m → SetsSides m m1 at left before → SetsSides m1 m2 right after outer → SetsSides m2 m3 middle (Some at) (Some right)
    → (l : Tree (I ks)) (a : I ks) (u : Tree (I ks)) (c : I ks) (v : Tree (I ks)) (b : I ks) (y : Tree (I ks)) → AreTurnedOut ks old at right left (Some middle) outer l a (node u c v) b y
    → IsLinked m.heap before (root_of u) → IsLinked m.heap after (root_of v) → StandsAt ks old m3 (node l a (node (node u c v) b y)) (lean_outer l a (node u c v) b y) middle
unfolding lean_outer
double_outer ks old m m1 m2 m3 at right middle left before after outer grows s1 s2 s3 l a u c v b y g ub vb =
    let here = place_touched old m grows g.here in
    let here1 = s1.here here in
    let here2 = s2.here here1 in
    let an = grows.named at a.name g.at_is in
    let bn = grows.named right b.name g.right_is in
    let cn = grows.named middle c.name g.inner_is in
    let bn1 = s1.holds.named right b.name bn in
    let on1 = linked_kept m.heap m1.heap s1.holds.named outer (root_of y) (linked_kept old.heap m.heap grows.named outer (root_of y) g.outer_is) in
    let vb1 = linked_kept m.heap m1.heap s1.holds.named after (root_of v) vb in
    let cn2 = s2.holds.named middle c.name (s1.holds.named middle c.name cn) in
    record {
      becomes = touched (rows_of ks old) (rows_of ks m) (rows_of ks m3) _ _ (grows.rows ks) (turned_outer (order_by ks) (total ks) (rows_of ks m) (rows_of ks m1) (rows_of ks m2) (rows_of ks m3) (one ks m here) (one ks m1 here1) l a u c v b y
          (given_grown (order_by ks) (rows_of ks old) (rows_of ks m) (grows.rows ks) l a (node (node u c v) b y) g.given)
          (λ k. s1.set ks l a u (record { given = k; here = here; name = an; left_is = linked_kept old.heap m.heap grows.named left (root_of l) g.left_is; right_is = ub; left_low = omega (arith, g.left_low); right_low = omega (arith, g.low) }))
          (λ k. s2.set ks v b y (record { given = k; here = here1; name = bn1; left_is = vb1; right_is = on1; left_low = omega (arith, g.low); right_low = omega (arith, g.low, g.lower) }))
          (λ k. s3.set ks (node l a u) c (node v b y) (record { given = k; here = here2; name = cn2; left_is = s2.holds.named at a.name (s1.holds.named at a.name an); right_is = s2.holds.named right b.name bn1; left_low = omega (arith, g.low, g.left_low); right_low = omega (arith, g.low, g.lower) })));
      hangs = outer_hangs ks old m3 g.here (λ n k. record { at = k.at; named = s3.holds.named k.at n (s2.holds.named k.at n (s1.holds.named k.at n (grows.named k.at n k.named))) }) l a u c v b y g.given
          (λ n it q k changed. three_steady old m m1 m2 m3 at right middle a.name b.name c.name g.here grows s1.steady s2.steady s3.steady an.name bn1.name cn2.name n it q.0 q.1.0 q.1.1.0 k changed)
          (record { at = at; named = s3.holds.named at a.name (s2.holds.named at a.name (s1.holds.named at a.name an)) }) (record { at = right; named = s3.holds.named right b.name (s2.holds.named right b.name bn1) })
          (record { at = middle; named = s3.holds.named middle c.name cn2 });
      here = s3.here here2;
      root_is = s3.holds.named middle c.name cn2;
      others = λ n it p k.
          let q = apart_back n (items l) a (items (node (node u c v) b y)) p in
          s3.others here2 n it (other_name m2.heap middle n (items u) c (items v) cn2 (apart_front n (items (node u c v)) b (items y) q))
          (s2.others here1 n it (other_name m1.heap right n (items (node u c v)) b (items y) bn1 q)
          (s1.others here n it (other_name m.heap at n (items l) a (items (node (node u c v) b y)) an p) (grows.seen n it k)));
    }

pub via_inner : (ks : Keys) (old new : Place) (at left : ℕ) (right : Option ℕ) (sides : Sides) (ends : Option Sides) (root : ℕ) → TurnsInner old new at left right sides ends root
    → (x : Tree (I ks)) (b : I ks) (y : Tree (I ks)) (a : I ks) (r : Tree (I ks)) → AreSides ks old at (Some left) right (node x b y) a r → height r + 1 < height (node x b y) → height x < height y
    → AreEnds old.heap (Some sides) (node x b y) → AreEnds old.heap ends y → StandsAt ks old new (node (node x b y) a r) (lean_left (node x b y) a r) root
unfolding lean_left
via_inner ks old new at left right sides ends root turns x b y a r g tall lt known inner =
    rw (lt-ltb (height x) (height y) lt)
    (turns ks x b y a r (record { given = g.given; here = g.here; at_is = g.name; left_is = g.left_is; outer_is = known.0; inner_is = known.1; right_is = g.right_is; lower = lt; low = omega (arith, g.left_low); right_low = omega (arith, tall, g.left_low) }) inner)

pub via_outer : (ks : Keys) (old new : Place) (at right : ℕ) (left : Option ℕ) (sides : Sides) (ends : Option Sides) (root : ℕ) → TurnsOuter old new at left right sides ends root
    → (l : Tree (I ks)) (a : I ks) (x : Tree (I ks)) (b : I ks) (y : Tree (I ks)) → AreSides ks old at left (Some right) l a (node x b y) → height l + 1 < height (node x b y) → height y < height x
    → AreEnds old.heap (Some sides) (node x b y) → AreEnds old.heap ends x → StandsAt ks old new (node l a (node x b y)) (lean_right l a (node x b y)) root
unfolding lean_right
via_outer ks old new at right left sides ends root turns l a x b y g tall lt known inner =
    rw (lt-ltb (height y) (height x) lt)
    (turns ks l a x b y (record { given = g.given; here = g.here; at_is = g.name; right_is = g.right_is; inner_is = known.0; outer_is = known.1; left_is = g.left_is; lower = lt; low = omega (arith, g.right_low); left_low = omega (arith, tall, g.right_low) }) inner)

pub balanced_right : (ks : Keys) (old new : Place) (at left : ℕ) (right : Option ℕ) (wing : Wing) (root : ℕ) → TurnsRight old new at left right wing root → (l : Tree (I ks)) (a : I ks) (r : Tree (I ks)) → AreSides ks old at (Some left) right l a r → height r + 1 < height l
    → IsLeftWing old.heap wing l → StandsAt ks old new (node l a r) (balance l a r) root
unfolding balance
balanced_right ks old new at left right wing root f l a r g tall known = rw (lt-ltb (height r + 1) (height l) tall) (f ks l a r g tall known)

pub balanced_left : (ks : Keys) (old new : Place) (at right : ℕ) (left : Option ℕ) (wing : Wing) (root : ℕ) → TurnsLeft old new at left right wing root → (l : Tree (I ks)) (a : I ks) (r : Tree (I ks)) → AreSides ks old at left (Some right) l a r → height l + 1 < height r
    → IsRightWing old.heap wing r → StandsAt ks old new (node l a r) (balance l a r) root
unfolding balance
balanced_left ks old new at right left wing root f l a r g tall known = rw (le-ltb (height r + 1) (height l) (omega (arith, tall)), lt-ltb (height l + 1) (height r) tall) (f ks l a r g tall known)

pub balanced_plain : (ks : Keys) (old new : Place) (at : ℕ) (left right : Option ℕ) → SetsSides old new at left right → (l : Tree (I ks)) (a : I ks) (r : Tree (I ks)) → AreSides ks old at left right l a r → height l ≤ height r + 1 → height r ≤ height l + 1
    → StandsAt ks old new (node l a r) (balance l a r) at
unfolding balance
balanced_plain ks old new at left right s l a r g low high =
    rw (le-ltb (height r + 1) (height l) low, le-ltb (height l + 1) (height r) high) (record {
      becomes = s.set ks l a r g;
      hangs = plain_hangs ks old new g.here (λ n k. record { at = k.at; named = s.holds.named k.at n k.named }) l a r g.given (λ n it q k c. s.steady n (λ e. q.0 (sym (e ∙ g.name.name))) c) (record { at = at; named = s.holds.named at a.name g.name });
      here = s.here g.here;
      root_is = s.holds.named at a.name g.name;
      others = λ n it p k. s.others g.here n it (other_name old.heap at n (items l) a (items r) g.name p) k;
    })
