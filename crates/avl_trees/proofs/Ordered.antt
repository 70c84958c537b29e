-- Around an entry: what is found, entered and removed on the side where the key belongs.
use Rattle.std.proofs.Common.{◌≡◌, ◌≢◌, List, [], ◌∷◌, ◌++◌, Option, Some, None, refl, sym, ap, ◌∙◌}
use Rattle.std.specs.List.{AllByRecursion}
use Rattle.std.specs.declared.cmp.Ordering.{Ordering}
use Rattle.std.specs.declared.cmp.Ordering.TheVariants.{Less, Equal, Greater}
use Rattle.avl_trees.specs.Rising.{pick, AreRising, Parts, Fits, find, above, enter, without, or_else}
use Rattle.avl_trees.specs.Trees.{Tree, leaf, node, items, balance, insert, remove, lookup, next, merge}
use Rattle.avl_trees.proofs.Items.{balance_items, merge_items}

pub all_front : {A : Type 0} (P : A → Type 0) (xs ys : List A) → AllByRecursion P (xs ++ ys) → AllByRecursion P xs
all_front P [] ys h = tt
all_front P (x ∷ xs) ys h = (h.0, all_front P xs ys h.1)

pub all_back : {A : Type 0} (P : A → Type 0) (xs ys : List A) → AllByRecursion P (xs ++ ys) → AllByRecursion P ys
all_back P [] ys h = h
all_back P (x ∷ xs) ys h = all_back P xs ys h.1

pub all_both : {A : Type 0} (P : A → Type 0) (xs ys : List A) → AllByRecursion P xs → AllByRecursion P ys → AllByRecursion P (xs ++ ys)
all_both P [] ys h k = k
all_both P (x ∷ xs) ys h k = (h.0, all_both P xs ys h.1 k)

pub all_map : {A : Type 0} (P Q : A → Type 0) → ((a : A) → P a → Q a) → (xs : List A) → AllByRecursion P xs → AllByRecursion Q xs
all_map P Q f [] h = tt
all_map P Q f (x ∷ xs) h = (f x h.0, all_map P Q f xs h.1)

-- the parts of a list that rises
pub record Around {A : Type 0} (below : A → A → Type 0) (xs : List A) (a : A) (ys : List A) : Type 0 where
  pub left : AreRising below xs
  pub right : AreRising below ys
  pub before : AllByRecursion (λ x. below x a) xs
  pub behind : AllByRecursion (below a) ys
  pub across : AllByRecursion (λ x. AllByRecursion (below x) ys) xs

pub around : {A : Type 0} (below : A → A → Type 0) (xs : List A) (a : A) (ys : List A) → AreRising below (xs ++ a ∷ ys) → Around below xs a ys
around below [] a ys h = record { left = tt; right = h.1; before = tt; behind = h.0; across = tt }
around below (x ∷ xs) a ys h =
    let w = around below xs a ys h.1 in
    let b = all_back (below x) xs (a ∷ ys) h.0 in
    record { left = (all_front (below x) xs (a ∷ ys) h.0, w.left); right = w.right; before = (b.0, w.before); behind = w.behind; across = (b.1, w.across) }

pub joined : {A : Type 0} (below : A → A → Type 0) (xs : List A) (a : A) (ys : List A) → Around below xs a ys → AreRising below (xs ++ a ∷ ys)
joined below [] a ys w = (w.behind, w.right)
joined below (x ∷ xs) a ys w = (
  all_both (below x) xs (a ∷ ys) w.left.0 (w.before.0, w.across.0),
  joined below xs a ys (record { left = w.left.1; right = w.right; before = w.before.1; behind = w.behind; across = w.across.1 }),
)

module _ {A : Type 0} (below : A → A → Type 0) (probe : A → Ordering) (parts : Parts below probe) where
  -- entries below one that the key isn't below of
  greater_of : (a : A) → probe a ≢ Less → (x : A) → below x a → probe x ≡ Greater
  greater_of a h x b = go (probe x) refl
    where
      go : (o : Ordering) → probe x ≡ o → o ≡ Greater
      go Less e = absurd (h (parts x a b (λ f. cc)))
      go Equal e = absurd (h (parts x a b (λ f. cc)))
      go Greater e = refl

  pub before_greater : (xs : List A) (a : A) (ys : List A) → AreRising below (xs ++ a ∷ ys) → probe a ≢ Less → AllByRecursion (λ x. probe x ≡ Greater) xs
  before_greater xs a ys h p = all_map (λ x. below x a) (λ x. probe x ≡ Greater) (greater_of a p) xs (around below xs a ys h).before

  pub behind_less : (xs : List A) (a : A) (ys : List A) → AreRising below (xs ++ a ∷ ys) → probe a ≢ Greater → AllByRecursion (λ y. probe y ≡ Less) ys
  behind_less xs a ys h p = all_map (below a) (λ y. probe y ≡ Less) (λ y b. parts a y b p) ys (around below xs a ys h).behind

module _ {A : Type 0} (probe : A → Ordering) where
  pub find_past : (xs ys : List A) → AllByRecursion (λ x. probe x ≡ Greater) xs → find probe (xs ++ ys) ≡ find probe ys
  find_past [] ys h = refl
  find_past (x ∷ xs) ys h = rw h.0 (find_past xs ys h.1)

  pub find_short : (xs : List A) (a : A) (ys : List A) → probe a ≡ Less → find probe (xs ++ a ∷ ys) ≡ find probe xs
  find_short [] a ys e = rw e refl
  find_short (x ∷ xs) a ys e = ap (λ t. pick (probe x) None (Some x) t) (find_short xs a ys e)

  pub above_past : (xs ys : List A) → AllByRecursion (λ x. probe x ≡ Greater) xs → above probe (xs ++ ys) ≡ above probe ys
  above_past [] ys h = refl
  above_past (x ∷ xs) ys h = rw h.0 (above_past xs ys h.1)

  pub enter_past : (change : A → A) (new : A) (xs ys : List A) → AllByRecursion (λ x. probe x ≡ Greater) xs → enter probe change new (xs ++ ys) ≡ xs ++ enter probe change new ys
  enter_past change new [] ys h = refl
  enter_past change new (x ∷ xs) ys h = rw h.0 (ap (λ t. x ∷ t) (enter_past change new xs ys h.1))

  pub enter_short : (change : A → A) (new : A) (xs : List A) (a : A) (ys : List A) → probe a ≡ Less → enter probe change new (xs ++ a ∷ ys) ≡ enter probe change new xs ++ a ∷ ys
  enter_short change new [] a ys e = rw e refl
  enter_short change new (x ∷ xs) a ys e =
      ap (λ t. pick (probe x) (new ∷ x ∷ (xs ++ a ∷ ys)) (change x ∷ (xs ++ a ∷ ys)) (x ∷ t)) (enter_short change new xs a ys e)
      ∙ elim (probe x) as (λ o. pick o (new ∷ x ∷ (xs ++ a ∷ ys)) (change x ∷ (xs ++ a ∷ ys)) (x ∷ (enter probe change new xs ++ a ∷ ys)) ≡ pick o (new ∷ x ∷ xs) (change x ∷ xs) (x ∷ enter probe change new xs) ++ a ∷ ys) [ Less ↦ refl | Equal ↦ refl | Greater ↦ refl ]

  pub without_past : (xs ys : List A) → AllByRecursion (λ x. probe x ≡ Greater) xs → without probe (xs ++ ys) ≡ xs ++ without probe ys
  without_past [] ys h = refl
  without_past (x ∷ xs) ys h = rw h.0 (ap (λ t. x ∷ t) (without_past xs ys h.1))

  pub without_short : (xs : List A) (a : A) (ys : List A) → probe a ≡ Less → without probe (xs ++ a ∷ ys) ≡ without probe xs ++ a ∷ ys
  without_short [] a ys e = rw e refl
  without_short (x ∷ xs) a ys e =
      ap (λ t. pick (probe x) (x ∷ (xs ++ a ∷ ys)) (xs ++ a ∷ ys) (x ∷ t)) (without_short xs a ys e)
      ∙ elim (probe x) as (λ o. pick o (x ∷ (xs ++ a ∷ ys)) (xs ++ a ∷ ys) (x ∷ (without probe xs ++ a ∷ ys)) ≡ pick o (x ∷ xs) xs (x ∷ without probe xs) ++ a ∷ ys) [ Less ↦ refl | Equal ↦ refl | Greater ↦ refl ]

  pub above_append : (xs ys : List A) → above probe (xs ++ ys) ≡ or_else (above probe xs) (above probe ys)
  above_append [] ys = refl
  above_append (x ∷ xs) ys =
      elim (probe x) as (λ o. pick o (Some x) (above probe (xs ++ ys)) (above probe (xs ++ ys)) ≡ or_else (pick o (Some x) (above probe xs) (above probe xs)) (above probe ys)) [
        | Less ↦ refl
        | Equal ↦ above_append xs ys
        | Greater ↦ above_append xs ys
      ]

  or_else_assoc : {X : Type 0} (x y z : Option X) → or_else x (or_else y z) ≡ or_else (or_else x y) z
  or_else_assoc None y z = refl
  or_else_assoc (Some x) y z = refl

module _ {A : Type 0} (below : A → A → Type 0) (probe : A → Ordering) (parts : Parts below probe) where
  pub lookup_items : (t : Tree A) → AreRising below (items t) → lookup probe t ≡ find probe (items t)
  unfolding lookup
  lookup_items leaf h = refl
  lookup_items (node l a r) h =
      let w = around below (items l) a (items r) h in
      (elim (probe a) as (λ o. probe a ≡ o → pick o (lookup probe l) (Some a) (lookup probe r) ≡ find probe (items l ++ a ∷ items r)) [
        | Less ↦ λ e. lookup_items l w.left ∙ sym (find_short probe (items l) a (items r) e)
        | Equal ↦ λ e. sym (find_past probe (items l) (a ∷ items r) (before_greater below probe parts (items l) a (items r) h (λ f. cc)) ∙ rw e refl)
        | Greater ↦ λ e. lookup_items r w.right ∙ sym (find_past probe (items l) (a ∷ items r) (before_greater below probe parts (items l) a (items r) h (λ f. cc)) ∙ rw e refl)
      ]) refl

  pub next_items : (t : Tree A) (other : Option A) → AreRising below (items t) → next probe t other ≡ or_else (above probe (items t)) other
  unfolding next
  next_items leaf other h = refl
  next_items (node l a r) other h =
      let w = around below (items l) a (items r) h in
      (elim (probe a) as (λ o. probe a ≡ o → pick o (next probe l (Some a)) (next probe r other) (next probe r other) ≡ or_else (above probe (items l ++ a ∷ items r)) other) [
        | Less ↦ λ e. next_items l (Some a) w.left ∙ sym (rw (above_append probe (items l) (a ∷ items r), e) (sym (or_else_assoc probe (above probe (items l)) (Some a) other)))
        | Equal ↦ λ e. next_items r other w.right ∙ sym (ap (λ t. or_else t other) (above_past probe (items l) (a ∷ items r) (before_greater below probe parts (items l) a (items r) h (λ f. cc)) ∙ rw e refl))
        | Greater ↦ λ e. next_items r other w.right ∙ sym (ap (λ t. or_else t other) (above_past probe (items l) (a ∷ items r) (before_greater below probe parts (items l) a (items r) h (λ f. cc)) ∙ rw e refl))
      ]) refl

  pub insert_items : (change : A → A) (new : A) (t : Tree A) → AreRising below (items t) → items (insert probe change new t) ≡ enter probe change new (items t)
  unfolding insert
  insert_items change new leaf h = refl
  insert_items change new (node l a r) h =
      let w = around below (items l) a (items r) h in
      (elim (probe a) as (λ o. probe a ≡ o → items (pick o (balance (insert probe change new l) a r) (node l (change a) r) (balance l a (insert probe change new r))) ≡ enter probe change new (items l ++ a ∷ items r)) [
        | Less ↦ λ e. balance_items (insert probe change new l) a r ∙ ap (λ t. t ++ a ∷ items r) (insert_items change new l w.left) ∙ sym (enter_short probe change new (items l) a (items r) e)
        | Equal ↦ λ e. sym (enter_past probe change new (items l) (a ∷ items r) (before_greater below probe parts (items l) a (items r) h (λ f. cc)) ∙ rw e refl)
        | Greater ↦ λ e. balance_items l a (insert probe change new r) ∙ ap (λ t. items l ++ a ∷ t) (insert_items change new r w.right)
            ∙ sym (enter_past probe change new (items l) (a ∷ items r) (before_greater below probe parts (items l) a (items r) h (λ f. cc)) ∙ rw e refl)
      ]) refl

  pub remove_items : (t : Tree A) → AreRising below (items t) → items (remove probe t) ≡ without probe (items t)
  unfolding remove
  remove_items leaf h = refl
  remove_items (node l a r) h =
      let w = around below (items l) a (items r) h in
      (elim (probe a) as (λ o. probe a ≡ o → items (pick o (balance (remove probe l) a r) (merge l r) (balance l a (remove probe r))) ≡ without probe (items l ++ a ∷ items r)) [
        | Less ↦ λ e. balance_items (remove probe l) a r ∙ ap (λ t. t ++ a ∷ items r) (remove_items l w.left) ∙ sym (without_short probe (items l) a (items r) e)
        | Equal ↦ λ e. merge_items l r ∙ sym (without_past probe (items l) (a ∷ items r) (before_greater below probe parts (items l) a (items r) h (λ f. cc)) ∙ rw e refl)
        | Greater ↦ λ e. balance_items l a (remove probe r) ∙ ap (λ t. items l ++ a ∷ t) (remove_items r w.right)
            ∙ sym (without_past probe (items l) (a ∷ items r) (before_greater below probe parts (items l) a (items r) h (λ f. cc)) ∙ rw e refl)
      ]) refl

  pub without_all : (P : A → Type 0) (xs : List A) → AllByRecursion P xs → AllByRecursion P (without probe xs)
  without_all P [] h = tt
  without_all P (x ∷ xs) h = elim (probe x) as (λ o. AllByRecursion P (pick o (x ∷ xs) xs (x ∷ without probe xs))) [ Less ↦ h | Equal ↦ h.1 | Greater ↦ (h.0, without_all P xs h.1) ]

  pub without_rising : (xs : List A) → AreRising below xs → AreRising below (without probe xs)
  without_rising [] h = tt
  without_rising (x ∷ xs) h = elim (probe x) as (λ o. AreRising below (pick o (x ∷ xs) xs (x ∷ without probe xs))) [ Less ↦ h | Equal ↦ h.1 | Greater ↦ (without_all (below x) xs h.0, without_rising xs h.1) ]

  module _ (change : A → A) (new : A) (fits : Fits below probe change new) where
    pub enter_all : (P : A → Type 0) (xs : List A) → P new → ((x : A) → probe x ≡ Equal → P x → P (change x)) → AllByRecursion P xs → AllByRecursion P (enter probe change new xs)
    enter_all P [] p q h = (p, tt)
    enter_all P (x ∷ xs) p q h =
        (elim (probe x) as (λ o. probe x ≡ o → AllByRecursion P (pick o (new ∷ x ∷ xs) (change x ∷ xs) (x ∷ enter probe change new xs))) [
          | Less ↦ λ e. (p, h)
          | Equal ↦ λ e. (q x e h.0, h.1)
          | Greater ↦ λ e. (h.0, enter_all P xs p q h.1)
        ]) refl

    pub enter_rising : (xs : List A) → AreRising below xs → AreRising below (enter probe change new xs)
    enter_rising [] h = (tt, tt)
    enter_rising (x ∷ xs) h =
        (elim (probe x) as (λ o. probe x ≡ o → AreRising below (pick o (new ∷ x ∷ xs) (change x ∷ xs) (x ∷ enter probe change new xs))) [
          | Less ↦ λ e. ((fits.under x e, all_map (below x) (below new) (λ y b. fits.under y (parts x y b (λ f. cc))) xs h.0), h)
          | Equal ↦ λ e. (all_map (below x) (below (change x)) (λ y b. fits.up x y e b) xs h.0, h.1)
          | Greater ↦ λ e. (enter_all (below x) xs (fits.over x e) (λ y f b. fits.down y x f b) h.0, enter_rising xs h.1)
        ]) refl
