-- An entry is put into a tree, from the place of its key up.
use Rattle.std.proofs.Common.{◌≡◌, ◌≢◌, List, ◌∷◌, ◌++◌, None, refl, sym, ap, ◌∙◌, subst}
use Rattle.std.specs.List.{AllByRecursion}
use Rattle.std.specs.Cmp.{IsTotalOrder}
use Rattle.std.specs.declared.cmp.Ordering.{Ordering}
use Rattle.std.specs.declared.cmp.Ordering.TheVariants.{Less, Equal, Greater}
use Rattle.std.specs.Ordering.{ordering_reverse}
use Rattle.avl_trees.specs.Rising.{AreRising, Parts, Fits, enter}
use Rattle.avl_trees.specs.Trees.{Tree, leaf, node, items, balance, insert, IsBalanced}
use Rattle.avl_trees.proofs.Balanced.{insert_grown}
use Rattle.avl_trees.specs.Changes.{Grown}
use Rattle.avl_trees.specs.Standing.{Item, Row, Rows, row_of, Stands, IsOne, under, IsApart, Given, Becomes, IsWritten, put, fresh_item}
use Rattle.avl_trees.proofs.Ordered.{around, all_back, before_greater, insert_items, enter_rising, enter_all, enter_short, enter_past}
use Rattle.avl_trees.proofs.Standing.{all_have, between, parts_of, beside}
use Rattle.avl_trees.proofs.Turning.{left_changed, right_changed, behind}
use Rattle.avl_trees.proofs.Turns.{has_of, among_front, among_back}

module _ {N K V : Type 0} (cmp : K → K → Ordering) (o : IsTotalOrder cmp) (key : K) (value : V) (fresh : N) where
  abbrev probe : Item N K V → Ordering
  probe a = cmp key a.entry.key

  abbrev pub entered : Tree (Item N K V) → Tree (Item N K V)
  entered t = insert probe (put value) (fresh_item fresh key value) t

  parts : Parts (under cmp) probe
  parts = parts_of cmp o key

  fits : Fits (under cmp) probe (put value) (fresh_item fresh key value)
  fits = record {
    under = λ a e. e;
    over = λ a e. o.antisymm a.entry.key key ∙ ap ordering_reverse e;
    up = λ a b e h. h;
    down = λ a b e h. h;
  }

  pub entered_left_is : (l : Tree (Item N K V)) (a : Item N K V) (r : Tree (Item N K V)) → probe a ≡ Less → entered (node l a r) ≡ balance (entered l) a r
  unfolding insert
  entered_left_is l a r e = rw e refl

  pub entered_right_is : (l : Tree (Item N K V)) (a : Item N K V) (r : Tree (Item N K V)) → probe a ≡ Greater → entered (node l a r) ≡ balance l a (entered r)
  unfolding insert
  entered_right_is l a r e = rw e refl

  pub entered_here_is : (l : Tree (Item N K V)) (a : Item N K V) (r : Tree (Item N K V)) → probe a ≡ Equal → entered (node l a r) ≡ node l (put value a) r
  unfolding insert
  entered_here_is l a r e = rw e refl

  -- a name that stood before is no name of an entry that was put in
  apart_entered : (n : N) → fresh ≢ n → (is : List (Item N K V)) → IsApart n is → IsApart n (enter probe (put value) (fresh_item fresh key value) is)
  apart_entered n ne is h = enter_all (under cmp) probe parts (put value) (fresh_item fresh key value) fits (λ a. a.name ≢ n) is ne (λ a e p. p) h

  -- the items of a tree one side of which was entered into
  left_items : (l : Tree (Item N K V)) (a : Item N K V) (r : Tree (Item N K V)) → probe a ≡ Less → AreRising (under cmp) (items (node l a r))
      → enter probe (put value) (fresh_item fresh key value) (items l ++ a ∷ items r) ≡ items (entered l) ++ a ∷ items r
  left_items l a r e rising =
      let new = fresh_item fresh key value in
      enter_short probe (put value) new (items l) a (items r) e ∙ ap (λ t. t ++ a ∷ items r) (sym (insert_items (under cmp) probe parts (put value) new l (around (under cmp) (items l) a (items r) rising).left))

  right_items : (l : Tree (Item N K V)) (a : Item N K V) (r : Tree (Item N K V)) → probe a ≡ Greater → AreRising (under cmp) (items (node l a r))
      → enter probe (put value) (fresh_item fresh key value) (items l ++ a ∷ items r) ≡ items l ++ a ∷ items (entered r)
  right_items l a r e rising =
      let new = fresh_item fresh key value in
      let past = before_greater (under cmp) probe parts (items l) a (items r) rising (λ f. cc) in
      enter_past probe (put value) new (items l) (a ∷ items r) past ∙ rw e (ap (λ t. items l ++ a ∷ t) (sym (insert_items (under cmp) probe parts (put value) new r (around (under cmp) (items l) a (items r) rising).right)))

  -- a name that is apart from those of a tree is apart from those after a side was entered into
  pub apart_left : (n : N) → fresh ≢ n → (l : Tree (Item N K V)) (a : Item N K V) (r : Tree (Item N K V)) → probe a ≡ Less → AreRising (under cmp) (items (node l a r)) → IsApart n (items (node l a r)) → IsApart n (items (entered l) ++ a ∷ items r)
  apart_left n ne l a r e rising h = subst (IsApart n) (left_items l a r e rising) (apart_entered n ne (items l ++ a ∷ items r) h)

  pub apart_right : (n : N) → fresh ≢ n → (l : Tree (Item N K V)) (a : Item N K V) (r : Tree (Item N K V)) → probe a ≡ Greater → AreRising (under cmp) (items (node l a r)) → IsApart n (items (node l a r)) → IsApart n (items l ++ a ∷ items (entered r))
  apart_right n ne l a r e rising h = subst (IsApart n) (right_items l a r e rising) (apart_entered n ne (items l ++ a ∷ items r) h)

  pub left_given : (m m1 : Rows N K V) → IsOne m → (l : Tree (Item N K V)) (a : Item N K V) (r : Tree (Item N K V)) → probe a ≡ Less
      → Stands m (node l a r) → AreRising (under cmp) (items (node l a r)) → Becomes m m1 (items l) (entered l) → Given cmp m1 (entered l) a r
  left_given m m1 one l a r e s rising w =
      left_changed cmp o m m1 one (items l) (entered l) a r (all_have m l s.1) (has_of m l a r s) s.2 rising w
      (subst (AreRising (under cmp)) (left_items l a r e rising) (enter_rising (under cmp) probe parts (put value) (fresh_item fresh key value) fits (items l ++ a ∷ items r) rising))

  pub left_entered : (m m1 m2 : Rows N K V) → ((row : Row N K V) → m fresh row → ⊥) → (l : Tree (Item N K V)) (a : Item N K V) (r : Tree (Item N K V)) → probe a ≡ Less
      → AreRising (under cmp) (items (node l a r)) → Becomes m m1 (items l) (entered l) → Becomes m1 m2 (items (entered l) ++ a ∷ items r) (balance (entered l) a r) → Becomes m m2 (items (node l a r)) (entered (node l a r))
  left_entered m m1 m2 is_fresh l a r e rising w v =
      subst (λ t. Becomes m m2 (items (node l a r)) t) (sym (entered_left_is l a r e))
      (behind m m1 m2 (items (node l a r)) (items l) (items (entered l) ++ a ∷ items r) (entered l) (balance (entered l) a r) w v
      (λ n h. among_front n (items l) a (items r) h)
      (λ n row k h. apart_left n (λ f. is_fresh row (subst (λ x. m x row) (sym f) k)) l a r e rising h))

  pub right_given : (m m1 : Rows N K V) → IsOne m → (l : Tree (Item N K V)) (a : Item N K V) (r : Tree (Item N K V)) → probe a ≡ Greater
      → Stands m (node l a r) → AreRising (under cmp) (items (node l a r)) → Becomes m m1 (items r) (entered r) → Given cmp m1 l a (entered r)
  right_given m m1 one l a r e s rising w =
      right_changed cmp o m m1 one l a (items r) (entered r) s.1 (has_of m l a r s) (all_have m r s.2) rising w
      (subst (AreRising (under cmp)) (right_items l a r e rising) (enter_rising (under cmp) probe parts (put value) (fresh_item fresh key value) fits (items l ++ a ∷ items r) rising))

  pub right_entered : (m m1 m2 : Rows N K V) → ((row : Row N K V) → m fresh row → ⊥) → (l : Tree (Item N K V)) (a : Item N K V) (r : Tree (Item N K V)) → probe a ≡ Greater
      → AreRising (under cmp) (items (node l a r)) → Becomes m m1 (items r) (entered r) → Becomes m1 m2 (items l ++ a ∷ items (entered r)) (balance l a (entered r)) → Becomes m m2 (items (node l a r)) (entered (node l a r))
  right_entered m m1 m2 is_fresh l a r e rising w v =
      subst (λ t. Becomes m m2 (items (node l a r)) t) (sym (entered_right_is l a r e))
      (behind m m1 m2 (items (node l a r)) (items r) (items l ++ a ∷ items (entered r)) (entered r) (balance l a (entered r)) w v
      (λ n h. among_back n (items l) a (items r) h)
      (λ n row k h. apart_right n (λ f. is_fresh row (subst (λ x. m x row) (sym f) k)) l a r e rising h))

  -- the value of a node was written
  pub entered_here : (m m1 : Rows N K V) → IsOne m → (l : Tree (Item N K V)) (a : Item N K V) (r : Tree (Item N K V)) → probe a ≡ Equal
      → Stands m (node l a r) → AreRising (under cmp) (items (node l a r)) → IsWritten m a.name (row_of l (put value a) r) m1 → Becomes m m1 (items (node l a r)) (entered (node l a r))
  entered_here m m1 one l a r e s rising w =
      let b = between m one cmp o (items l) a (items r) (all_have m l s.1) (has_of m l a r s) (all_have m r s.2) rising in
      subst (λ t. Becomes m m1 (items (node l a r)) t) (sym (entered_here_is l a r e)) (record {
        stands = (w.there, beside w l b.left s.1, beside w r b.right s.2);
        stays = λ n row p h. w.stays n row (λ f. (all_back (λ x. x.name ≢ n) (items l) (a ∷ items r) p).0 (sym f)) h;
      })

  pub entered_leaf : (m m1 : Rows N K V) → m1 fresh (record { left = None; right = None; entry = record { key = key; value = value }; height = 1 }) → ((n : N) (row : Row N K V) → m n row → m1 n row) → Becomes m m1 (items {A = Item N K V} leaf) (entered leaf)
  unfolding insert
  entered_leaf m m1 there stays = record { stands = (there, tt, tt); stays = λ n row p h. stays n row h }

  pub entered_grown : (t : Tree (Item N K V)) → IsBalanced t → Grown t (entered t)
  entered_grown t b = insert_grown probe (put value) (fresh_item fresh key value) t b

  -- what is so of each item is so after an entry was put in
  pub entered_all : (P : Item N K V → Type 0) (is : List (Item N K V)) → P (fresh_item fresh key value) → ((a : Item N K V) → probe a ≡ Equal → P a → P (put value a)) → AllByRecursion P is
      → AllByRecursion P (enter probe (put value) (fresh_item fresh key value) is)
  entered_all P is p q h = enter_all (under cmp) probe parts (put value) (fresh_item fresh key value) fits P is p q h

  -- the entries of the tree with an entry are those of the list with it, and rise
  pub entered_items : (t : Tree (Item N K V)) → AreRising (under cmp) (items t) → items (entered t) ≡ enter probe (put value) (fresh_item fresh key value) (items t)
  entered_items t h = insert_items (under cmp) probe parts (put value) (fresh_item fresh key value) t h

  pub entered_rising : (t : Tree (Item N K V)) → AreRising (under cmp) (items t) → AreRising (under cmp) (items (entered t))
  entered_rising t h = subst (AreRising (under cmp)) (sym (entered_items t h)) (enter_rising (under cmp) probe parts (put value) (fresh_item fresh key value) fits (items t) h)
