-- Steps of a change: what stands after the nodes of some items have been written.
use Rattle.std.proofs.Common.{◌≢◌, List, [], ◌∷◌, ◌++◌, sym}
use Rattle.std.specs.List.{AllByRecursion}
use Rattle.std.specs.Cmp.{IsTotalOrder}
use Rattle.std.specs.declared.cmp.Ordering.{Ordering}
use Rattle.avl_trees.specs.Rising.{AreRising}
use Rattle.avl_trees.specs.Trees.{Tree, node, items}
use Rattle.avl_trees.specs.Standing.{Item, Row, Rows, row_of, Stands, IsOne, under, IsApart, Has, Given, Becomes, IsWritten}
use Rattle.avl_trees.proofs.Ordered.{all_front, all_back, all_both}
use Rattle.avl_trees.proofs.Standing.{all_have, between, stands_kept, linked}

pub has_kept : {N K V : Type 0} (old new : Rows N K V) (is : List (Item N K V)) → ((n : N) (row : Row N K V) → IsApart n is → old n row → new n row) → (a : Item N K V) → IsApart a.name is → Has old a → Has new a
has_kept old new is stays a p h = record { row = h.row; there = stays a.name h.row p h.there; entry = h.entry }

pub all_kept : {N K V : Type 0} (old new : Rows N K V) (is : List (Item N K V)) → ((n : N) (row : Row N K V) → IsApart n is → old n row → new n row) → (xs : List (Item N K V)) → AllByRecursion (λ a. IsApart a.name is) xs → AllByRecursion (Has old) xs → AllByRecursion (Has new) xs
all_kept old new is stays [] p h = tt
all_kept old new is stays (x ∷ xs) p h = (has_kept old new is stays x p.0 h.0, all_kept old new is stays xs p.1 h.1)

module _ {N K V : Type 0} (cmp : K → K → Ordering) (o : IsTotalOrder cmp) where
  -- the row of a node was written, between its sides
  pub set_between : (old new : Rows N K V) → IsOne old → (l : Tree (Item N K V)) (a : Item N K V) (r : Tree (Item N K V)) → Given cmp old l a r → IsWritten old a.name (row_of l a r) new → Becomes old new (items l ++ a ∷ items r) (node l a r)
  set_between old new one l a r g w =
      let b = between old one cmp o (items l) a (items r) (all_have old l g.left) g.has (all_have old r g.right) g.rising in
      record {
        stands = linked l a r w b.left b.right g.left g.right;
        stays = λ n row p h. w.stays n row (λ e. (all_back (λ x. x.name ≢ n) (items l) (a ∷ items r) p).0 (sym e)) h;
      }

  -- what lies to the right of an item has changed
  pub right_changed : (old new : Rows N K V) → IsOne old → (x : Tree (Item N K V)) (b : Item N K V) (is : List (Item N K V)) (m : Tree (Item N K V)) → Stands old x → Has old b → AllByRecursion (Has old) is
      → AreRising (under cmp) (items x ++ b ∷ is) → Becomes old new is m → AreRising (under cmp) (items x ++ b ∷ items m) → Given cmp new x b m
  right_changed old new one x b is m s h k u w v =
      let t = between old one cmp o (items x) b is (all_have old x s) h k u in
      record { left = stands_kept old new (λ n. IsApart n is) w.stays x t.across s; has = has_kept old new is w.stays b t.right h; right = w.stands; rising = v }

  -- and to the left
  pub left_changed : (old new : Rows N K V) → IsOne old → (is : List (Item N K V)) (m : Tree (Item N K V)) (b : Item N K V) (y : Tree (Item N K V)) → AllByRecursion (Has old) is → Has old b → Stands old y
      → AreRising (under cmp) (is ++ b ∷ items y) → Becomes old new is m → AreRising (under cmp) (items m ++ b ∷ items y) → Given cmp new m b y
  left_changed old new one is m b y k h s u w v =
      let t = between old one cmp o is b (items y) k h (all_have old y s) u in
      record { left = w.stands; has = has_kept old new is w.stays b t.left h; right = stands_kept old new (λ n. IsApart n is) w.stays y t.back s; rising = v }

  -- of two parts of a tree the first has changed, and the second stands as it did
  pub second_kept : (old new : Rows N K V) → IsOne old → (is : List (Item N K V)) (m : Tree (Item N K V)) (c : Item N K V) (v : Tree (Item N K V)) (a : Item N K V) (r : Tree (Item N K V))
      → AllByRecursion (Has old) is → Has old c → Given cmp old v a r → AreRising (under cmp) (is ++ c ∷ (items v ++ a ∷ items r)) → Becomes old new is m → Given cmp new v a r
  second_kept old new one is m c v a r k h g u w =
      let ks = all_both (Has old) (items v) (a ∷ items r) (all_have old v g.left) (g.has, all_have old r g.right) in
      let t = between old one cmp o is c (items v ++ a ∷ items r) k h ks u in
      let p = all_back (λ y. IsApart y.name is) (items v) (a ∷ items r) t.back in
      record {
        left = stands_kept old new (λ n. IsApart n is) w.stays v (all_front (λ y. IsApart y.name is) (items v) (a ∷ items r) t.back) g.left;
        has = has_kept old new is w.stays a p.0 g.has;
        right = stands_kept old new (λ n. IsApart n is) w.stays r p.1 g.right;
        rising = g.rising;
      }

  -- both parts have changed, the first before the second
  pub both_changed : (old mid new : Rows N K V) → IsOne old → IsOne mid → (t : Tree (Item N K V)) (c : Item N K V) (is : List (Item N K V)) (m : Tree (Item N K V))
      → AllByRecursion (Has old) (items t) → Has old c → AllByRecursion (Has old) is → AreRising (under cmp) (items t ++ c ∷ is)
      → Becomes old mid (items t) t → Becomes mid new is m → AreRising (under cmp) (items t ++ c ∷ items m) → Given cmp new t c m
  both_changed old mid new one one_mid t c is m k h ks u w v rising =
      let b = between old one cmp o (items t) c is k h ks u in
      right_changed mid new one_mid t c is m w.stands (has_kept old mid (items t) w.stays c b.left h) (all_kept old mid (items t) w.stays is b.back ks) u v rising

-- one change after another, within these items
pub behind : {N K V : Type 0} (old mid new : Rows N K V) (is first second : List (Item N K V)) (s t : Tree (Item N K V)) → Becomes old mid first s → Becomes mid new second t
    → ((n : N) → IsApart n is → IsApart n first) → ((n : N) (row : Row N K V) → old n row → IsApart n is → IsApart n second) → Becomes old new is t
behind old mid new is first second s t w v p q = record { stands = v.stands; stays = λ n row a h. v.stays n row (q n row h a) (w.stays n row (p n a) h) }

-- what was only touched
pub touched : {N K V : Type 0} (old mid new : Rows N K V) (is : List (Item N K V)) (t : Tree (Item N K V)) → ((n : N) (row : Row N K V) → old n row → mid n row) → Becomes mid new is t → Becomes old new is t
touched old mid new is t grows w = record { stands = w.stands; stays = λ n row a h. w.stays n row a (grows n row h) }
