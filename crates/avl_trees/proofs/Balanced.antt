-- The sides of what is made differ in height by at most one.
use Rattle.std.proofs.Common.{◌≡◌, ◌+◌, ◌≤◌, ◌<◌, max, refl, arith, inl, inr}
use Rattle.std.specs.declared.cmp.Ordering.{Ordering}
use Rattle.std.specs.declared.cmp.Ordering.TheVariants.{Less, Equal, Greater}
use Rattle.std.proofs.lemmas.Bool.{lt-ltb, le-ltb, cases_lt}
use Rattle.avl_trees.specs.Rising.{pick}
use Rattle.avl_trees.specs.Changes.{Grown, Shrunk}
use Rattle.avl_trees.specs.Trees.{Tree, leaf, node, height, Near, IsBalanced, lean_inner, lean_outer, lean_left, lean_right, balance, insert, least, rest, merge, remove}

-- what a rebalanced node is: balanced, and as high as its higher side or one more; where its sides differ by at most one it is one more
pub record Settled {A : Type 0} (l r t : Tree A) : Type 0 where
  pub balanced : IsBalanced t
  pub low : max (height l) (height r) ≤ height t
  pub high : height t ≤ max (height l) (height r) + 1
  pub plain : Near 1 (height l) (height r) → height t ≡ max (height l) (height r) + 1

lean_inner_settled : {A : Type 0} (x : Tree A) (b : A) (y : Tree A) (a : A) (r : Tree A) → IsBalanced (node x b y) → IsBalanced r → height (node x b y) ≡ height r + 2 → height x < height y → Settled (node x b y) r (lean_inner x b y a r)
unfolding lean_inner
lean_inner_settled x b leaf a r p q e lt = absurd (omega arith)
lean_inner_settled x b (node y c z) a r p q e lt =
    record { balanced = ((p.0, p.1.0, omega arith), (p.1.1, q, omega arith), omega arith); low = omega arith; high = omega arith; plain = λ h. absurd (omega arith) }

lean_left_settled : {A : Type 0} (l : Tree A) (a : A) (r : Tree A) → IsBalanced l → IsBalanced r → height l ≡ height r + 2 → Settled l r (lean_left l a r)
unfolding lean_left
lean_left_settled leaf a r p q e = absurd (omega arith)
lean_left_settled (node x b y) a r p q e =
    elim (cases_lt (height x) (height y)) [
      | inl lt ↦ rw (lt-ltb (height x) (height y) lt) (lean_inner_settled x b y a r p q e lt)
      | inr ge ↦ rw (le-ltb (height x) (height y) ge) (record { balanced = (p.0, (p.1, q, omega arith), omega arith); low = omega arith; high = omega arith; plain = λ h. absurd (omega arith) })
    ]

lean_outer_settled : {A : Type 0} (l : Tree A) (a : A) (x : Tree A) (b : A) (y : Tree A) → IsBalanced l → IsBalanced (node x b y) → height (node x b y) ≡ height l + 2 → height y < height x → Settled l (node x b y) (lean_outer l a x b y)
unfolding lean_outer
lean_outer_settled l a leaf b y p q e lt = absurd (omega arith)
lean_outer_settled l a (node w c x) b y p q e lt =
    record { balanced = ((p, q.0.0, omega arith), (q.0.1, q.1, omega arith), omega arith); low = omega arith; high = omega arith; plain = λ h. absurd (omega arith) }

lean_right_settled : {A : Type 0} (l : Tree A) (a : A) (r : Tree A) → IsBalanced l → IsBalanced r → height r ≡ height l + 2 → Settled l r (lean_right l a r)
unfolding lean_right
lean_right_settled l a leaf p q e = absurd (omega arith)
lean_right_settled l a (node x b y) p q e =
    elim (cases_lt (height y) (height x)) [
      | inl lt ↦ rw (lt-ltb (height y) (height x) lt) (lean_outer_settled l a x b y p q e lt)
      | inr ge ↦ rw (le-ltb (height y) (height x) ge) (record { balanced = ((p, q.0, omega arith), q.1, omega arith); low = omega arith; high = omega arith; plain = λ h. absurd (omega arith) })
    ]

pub balance_settled : {A : Type 0} (l : Tree A) (a : A) (r : Tree A) → IsBalanced l → IsBalanced r → Near 2 (height l) (height r) → Settled l r (balance l a r)
unfolding balance
balance_settled l a r p q n =
    elim (cases_lt (height r + 1) (height l)) [
      | inl lt ↦ rw (lt-ltb (height r + 1) (height l) lt) (lean_left_settled l a r p q (omega arith))
      | inr ge ↦ rw (le-ltb (height r + 1) (height l) ge) (elim (cases_lt (height l + 1) (height r)) [
        | inl lt ↦ rw (lt-ltb (height l + 1) (height r) lt) (lean_right_settled l a r p q (omega arith))
        | inr le ↦ rw (le-ltb (height l + 1) (height r) le) (record { balanced = (p, q, omega arith); low = omega arith; high = omega arith; plain = λ h. refl })
      ])
    ]

grown_left : {A : Type 0} (l m : Tree A) (a : A) (r : Tree A) → IsBalanced (node l a r) → Grown l m → Grown (node l a r) (balance m a r)
grown_left l m a r p g =
    let s = balance_settled m a r g.balanced p.1 (omega arith) in
    record { balanced = s.balanced; low = grind arith; high = grind arith }

grown_right : {A : Type 0} (l : Tree A) (a : A) (r m : Tree A) → IsBalanced (node l a r) → Grown r m → Grown (node l a r) (balance l a m)
grown_right l a r m p g =
    let s = balance_settled l a m p.0 g.balanced (omega arith) in
    record { balanced = s.balanced; low = grind arith; high = grind arith }

pub insert_grown : {A : Type 0} (probe : A → Ordering) (change : A → A) (new : A) (t : Tree A) → IsBalanced t → Grown t (insert probe change new t)
unfolding insert
insert_grown probe change new leaf p = record { balanced = (tt, tt, omega arith); low = omega arith; high = omega arith }
insert_grown probe change new (node l a r) p =
    elim (probe a) as (λ o. Grown (node l a r) (pick o (balance (insert probe change new l) a r) (node l (change a) r) (balance l a (insert probe change new r)))) [
      | Less ↦ grown_left l _ a r p (insert_grown probe change new l p.0)
      | Equal ↦ record { balanced = p; low = omega arith; high = omega arith }
      | Greater ↦ grown_right l a r _ p (insert_grown probe change new r p.1)
    ]

shrunk_left : {A : Type 0} (l m : Tree A) (a b : A) (r : Tree A) → IsBalanced (node l a r) → Shrunk l m → Shrunk (node l a r) (balance m b r)
shrunk_left l m a b r p g =
    let s = balance_settled m b r g.balanced p.1 (omega arith) in
    record { balanced = s.balanced; low = grind arith; high = grind arith }

shrunk_right : {A : Type 0} (l : Tree A) (a b : A) (r m : Tree A) → IsBalanced (node l a r) → Shrunk r m → Shrunk (node l a r) (balance l b m)
shrunk_right l a b r m p g =
    let s = balance_settled l b m p.0 g.balanced (omega arith) in
    record { balanced = s.balanced; low = grind arith; high = grind arith }

pub rest_shrunk : {A : Type 0} (l : Tree A) (a : A) (r : Tree A) → IsBalanced (node l a r) → Shrunk (node l a r) (rest l a r)
unfolding rest
rest_shrunk leaf a r p = record { balanced = p.1; low = omega arith; high = omega arith }
rest_shrunk (node x b y) a r p = shrunk_left (node x b y) (rest x b y) a a r p (rest_shrunk x b y p.0)

pub merge_shrunk : {A : Type 0} (l : Tree A) (a : A) (r : Tree A) → IsBalanced (node l a r) → Shrunk (node l a r) (merge l r)
unfolding merge
merge_shrunk l a leaf p = record { balanced = p.0; low = omega arith; high = omega arith }
merge_shrunk leaf a (node x b y) p = record { balanced = p.1; low = omega arith; high = omega arith }
merge_shrunk (node u c v) a (node x b y) p = shrunk_right (node u c v) a (least x b) (node x b y) (rest x b y) p (rest_shrunk x b y p.1)

pub remove_shrunk : {A : Type 0} (probe : A → Ordering) (t : Tree A) → IsBalanced t → Shrunk t (remove probe t)
unfolding remove
remove_shrunk probe leaf p = record { balanced = tt; low = omega arith; high = omega arith }
remove_shrunk probe (node l a r) p =
    elim (probe a) as (λ o. Shrunk (node l a r) (pick o (balance (remove probe l) a r) (merge l r) (balance l a (remove probe r)))) [
      | Less ↦ shrunk_left l _ a a r p (remove_shrunk probe l p.0)
      | Equal ↦ merge_shrunk l a r p
      | Greater ↦ shrunk_right l a a r _ p (remove_shrunk probe r p.1)
    ]
