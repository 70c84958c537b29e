-- A tree that has grown by an entered item has one side that is higher; where it was turned it hasn't grown.
use Rattle.std.proofs.Common.{◌≡◌, ◌+◌, ◌<◌, ◌≤◌, refl, sym, ap, ◌∙◌, arith, inl, inr}
use Rattle.std.specs.declared.cmp.Ordering.{Ordering}
use Rattle.std.specs.declared.cmp.Ordering.TheVariants.{Less, Equal, Greater}
use Rattle.std.proofs.lemmas.Bool.{lt-ltb, le-ltb, cases_lt}
use Rattle.avl_trees.specs.Rising.{pick}
use Rattle.avl_trees.specs.Changes.{Grown}
use Rattle.avl_trees.specs.Leaning.{Leans}
use Rattle.avl_trees.specs.Trees.{Tree, leaf, node, height, IsBalanced, lean_inner, lean_outer, lean_left, lean_right, balance, insert}
use Rattle.avl_trees.proofs.Balanced.{balance_settled, insert_grown}

lean_inner_level : {A : Type 0} (x : Tree A) (b : A) (y : Tree A) (a : A) (r : Tree A) → IsBalanced (node x b y) → height (node x b y) ≡ height r + 2 → height x < height y → height (lean_inner x b y a r) ≡ height (node x b y)
unfolding lean_inner
lean_inner_level x b leaf a r p e lt = absurd (omega arith)
lean_inner_level x b (node y c z) a r p e lt = omega (arith, p.2, p.1.2)

lean_left_level : {A : Type 0} (l : Tree A) (a : A) (r : Tree A) → IsBalanced l → height l ≡ height r + 2 → Leans l → height (lean_left l a r) ≡ height l
unfolding lean_left
lean_left_level leaf a r p e lean = absurd (omega arith)
lean_left_level (node x b y) a r p e lean =
    elim (cases_lt (height x) (height y)) [
      | inl lt ↦ rw (lt-ltb (height x) (height y) lt) (lean_inner_level x b y a r p e lt)
      | inr ge ↦ rw (le-ltb (height x) (height y) ge) (grind (arith, p.2, e, ge, lean))
    ]

lean_outer_level : {A : Type 0} (l : Tree A) (a : A) (x : Tree A) (b : A) (y : Tree A) → IsBalanced (node x b y) → height (node x b y) ≡ height l + 2 → height y < height x → height (lean_outer l a x b y) ≡ height (node x b y)
unfolding lean_outer
lean_outer_level l a leaf b y p e lt = absurd (omega arith)
lean_outer_level l a (node w c x) b y p e lt = omega (arith, p.2, p.0.2)

lean_right_level : {A : Type 0} (l : Tree A) (a : A) (r : Tree A) → IsBalanced r → height r ≡ height l + 2 → Leans r → height (lean_right l a r) ≡ height r
unfolding lean_right
lean_right_level l a leaf p e lean = absurd (omega arith)
lean_right_level l a (node x b y) p e lean =
    elim (cases_lt (height y) (height x)) [
      | inl lt ↦ rw (lt-ltb (height y) (height x) lt) (lean_outer_level l a x b y p e lt)
      | inr ge ↦ rw (le-ltb (height y) (height x) ge) (grind (arith, p.2, e, ge, lean))
    ]

balance_left_level : {A : Type 0} (l : Tree A) (a : A) (r : Tree A) → IsBalanced l → height l ≡ height r + 2 → Leans l → height (balance l a r) ≡ height l
unfolding balance
balance_left_level l a r p e lean = rw (lt-ltb (height r + 1) (height l) (omega (arith, e))) (lean_left_level l a r p e lean)

balance_right_level : {A : Type 0} (l : Tree A) (a : A) (r : Tree A) → IsBalanced r → height r ≡ height l + 2 → Leans r → height (balance l a r) ≡ height r
unfolding balance
balance_right_level l a r p e lean = rw (le-ltb (height r + 1) (height l) (omega (arith, e)), lt-ltb (height l + 1) (height r) (omega (arith, e))) (lean_right_level l a r p e lean)

balance_plain : {A : Type 0} (l : Tree A) (a : A) (r : Tree A) → height l ≤ height r + 1 → height r ≤ height l + 1 → balance l a r ≡ node l a r
unfolding balance
balance_plain l a r low high = rw (le-ltb (height r + 1) (height l) low, le-ltb (height l + 1) (height r) high) refl

-- What is so of a tree that grew since its left side did: that side grew, nothing was turned, and it is the higher one.
pub record GrewLeft {A : Type 0} (l m : Tree A) (a : A) (r : Tree A) : Type 0 where
  pub side : height m ≡ height l + 1
  pub plain : balance m a r ≡ node m a r
  pub higher : height r < height m

pub grew_left : {A : Type 0} (l m : Tree A) (a : A) (r : Tree A) → IsBalanced (node l a r) → Grown l m → (height m ≡ height l + 1 → Leans m) → height (balance m a r) ≡ height (node l a r) + 1 → GrewLeft l m a r
grew_left l m a r p g lean e =
    elim (cases_lt (height r + 1) (height m)) [
      | inl lt ↦ (
          let two : height m ≡ height r + 2 = omega (arith, p.2, g.low, g.high, lt) in
          let level = balance_left_level m a r g.balanced two (lean (omega (arith, p.2, g.low, g.high, lt))) in
          absurd (omega (arith, p.2, g.low, g.high, lt, level, e)))
      | inr ge ↦ (
          let plain = balance_plain m a r ge (omega (arith, p.2, g.low)) in
          let now : height (node m a r) ≡ height (node l a r) + 1 = ap height (sym plain) ∙ e in
          record { side = omega (arith, now, g.low, g.high, p.2); plain = plain; higher = omega (arith, now, g.low, g.high, p.2) })
    ]

-- and likewise of the right side
pub record GrewRight {A : Type 0} (l : Tree A) (a : A) (r m : Tree A) : Type 0 where
  pub side : height m ≡ height r + 1
  pub plain : balance l a m ≡ node l a m
  pub higher : height l < height m

pub grew_right : {A : Type 0} (l : Tree A) (a : A) (r m : Tree A) → IsBalanced (node l a r) → Grown r m → (height m ≡ height r + 1 → Leans m) → height (balance l a m) ≡ height (node l a r) + 1 → GrewRight l a r m
grew_right l a r m p g lean e =
    elim (cases_lt (height l + 1) (height m)) [
      | inl lt ↦ (
          let two : height m ≡ height l + 2 = omega (arith, p.2, g.low, g.high, lt) in
          let level = balance_right_level l a m g.balanced two (lean (omega (arith, p.2, g.low, g.high, lt))) in
          absurd (omega (arith, p.2, g.low, g.high, lt, level, e)))
      | inr ge ↦ (
          let plain = balance_plain l a m (omega (arith, p.2, g.low)) ge in
          let now : height (node l a m) ≡ height (node l a r) + 1 = ap height (sym plain) ∙ e in
          record { side = omega (arith, now, g.low, g.high, p.2); plain = plain; higher = omega (arith, now, g.low, g.high, p.2) })
    ]

leans_left : {A : Type 0} (l m : Tree A) (a : A) (r : Tree A) → GrewLeft l m a r → Leans (balance m a r)
leans_left l m a r w = rw w.plain (λ same. absurd (omega (arith, same, w.higher)))

leans_right : {A : Type 0} (l : Tree A) (a : A) (r m : Tree A) → GrewRight l a r m → Leans (balance l a m)
leans_right l a r m w = rw w.plain (λ same. absurd (omega (arith, same, w.higher)))

pub insert_leans : {A : Type 0} (probe : A → Ordering) (change : A → A) (new : A) (t : Tree A) → IsBalanced t → height (insert probe change new t) ≡ height t + 1 → Leans (insert probe change new t)
unfolding insert
insert_leans probe change new leaf p = λ e same. refl
insert_leans probe change new (node l a r) p =
    elim (probe a) as (λ o. height (pick o (balance (insert probe change new l) a r) (node l (change a) r) (balance l a (insert probe change new r))) ≡ height (node l a r) + 1
    → Leans (pick o (balance (insert probe change new l) a r) (node l (change a) r) (balance l a (insert probe change new r)))) [
      | Less ↦ (λ e. leans_left l _ a r (grew_left l (insert probe change new l) a r p (insert_grown probe change new l p.0) (insert_leans probe change new l p.0) e))
      | Equal ↦ (λ e. absurd (omega (arith, e)))
      | Greater ↦ (λ e. leans_right l a r _ (grew_right l a r (insert probe change new r) p (insert_grown probe change new r p.1) (insert_leans probe change new r p.1) e))
    ]
