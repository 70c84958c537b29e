-- What stands for a tree, where a node is written.
use Rattle.std.proofs.Common.{◌≡◌, ◌≢◌, List, [], ◌∷◌, ◌++◌, refl, sym, ap, ◌∙◌, subst}
use Rattle.std.specs.List.{AllByRecursion}
use Rattle.std.specs.Cmp.{IsTotalOrder}
use Rattle.std.specs.declared.cmp.Ordering.{Ordering}
use Rattle.std.specs.declared.cmp.Ordering.TheVariants.{Less, Equal, Greater}
use Rattle.std.proofs.lemmas.Cmp.{tied_itself}
use Rattle.avl_trees.specs.Rising.{AreRising, Parts}
use Rattle.avl_trees.specs.Trees.{Tree, leaf, node, items}
use Rattle.avl_trees.specs.Standing.{Item, Row, Rows, row_of, Stands, IsOne, under, seek, IsApart, Has, IsWritten}
use Rattle.avl_trees.proofs.Ordered.{around, all_map, all_front, all_back, all_both}

-- an order of keys parts what rises by it
pub parts_of : {N K V : Type 0} (cmp : K → K → Ordering) → IsTotalOrder cmp → (key : K) → Parts {A = Item N K V} (under cmp) (seek cmp key)
parts_of cmp o key a b less not = go (cmp key a.entry.key) refl
  where
    go : (x : Ordering) → cmp key a.entry.key ≡ x → cmp key b.entry.key ≡ Less
    go Less e = o.trans key a.entry.key b.entry.key e less
    go Equal e = o.congr key a.entry.key b.entry.key e ∙ less
    go Greater e = absurd (not e)

pub all_have : {N K V : Type 0} (rows : Rows N K V) (t : Tree (Item N K V)) → Stands rows t → AllByRecursion (Has rows) (items t)
all_have rows leaf h = tt
all_have rows (node l a r) h =
    all_both (Has rows) (items l) (a ∷ items r) (all_have rows l h.1) (record { row = row_of l a r; there = h.0; entry = refl }, all_have rows r h.2)

module _ {N K V : Type 0} (rows : Rows N K V) (one : IsOne rows) (cmp : K → K → Ordering) (o : IsTotalOrder cmp) where
  -- entries of two keys have two names
  apart : (a b : Item N K V) → Has rows a → Has rows b → under cmp a b → a.name ≢ b.name
  apart a b h k u e =
      let same : h.row ≡ k.row = one b.name h.row k.row (subst (λ n. rows n h.row) e h.there) k.there in
      let entries : a.entry ≡ b.entry = sym h.entry ∙ ap (λ r. r.entry) same ∙ k.entry in
      let tied : cmp a.entry.key b.entry.key ≡ Equal = subst (λ w. cmp a.entry.key w.key ≡ Equal) entries (tied_itself o a.entry.key) in
      cc

  apart_behind : (a : Item N K V) (ys : List (Item N K V)) → Has rows a → AllByRecursion (Has rows) ys → AllByRecursion (under cmp a) ys → IsApart a.name ys
  apart_behind a [] h k u = tt
  apart_behind a (y ∷ ys) h k u = ((λ e. apart a y h k.0 u.0 (sym e)), apart_behind a ys h k.1 u.1)

  apart_before : (a : Item N K V) (xs : List (Item N K V)) → Has rows a → AllByRecursion (Has rows) xs → AllByRecursion (λ x. under cmp x a) xs → IsApart a.name xs
  apart_before a [] h k u = tt
  apart_before a (x ∷ xs) h k u = ((λ e. apart x a k.0 h u.0 e), apart_before a xs h k.1 u.1)

  -- the names of a list are apart from those of another
  abbrev pub AreApart : List (Item N K V) → List (Item N K V) → Type 0
  AreApart xs ys = AllByRecursion (λ x. IsApart x.name ys) xs

  apart_across : (xs ys : List (Item N K V)) → AllByRecursion (Has rows) xs → AllByRecursion (Has rows) ys → AllByRecursion (λ x. AllByRecursion (under cmp x) ys) xs → AreApart xs ys
  apart_across [] ys h k u = tt
  apart_across (x ∷ xs) ys h k u = (apart_behind x ys h.0 k u.0, apart_across xs ys h.1 k u.1)

  -- what is known of an item between those before it and those after it: their names are apart
  pub record Between (xs : List (Item N K V)) (a : Item N K V) (ys : List (Item N K V)) : Type 0 where
    pub left : IsApart a.name xs
    pub right : IsApart a.name ys
    pub across : AreApart xs ys
    pub back : AreApart ys xs

  turned : (xs ys : List (Item N K V)) → AreApart xs ys → AreApart ys xs
  turned xs [] h = tt
  turned xs (y ∷ ys) h = (
    all_map (λ x. IsApart x.name (y ∷ ys)) (λ x. x.name ≢ y.name) (λ x p e. p.0 (sym e)) xs h,
    turned xs ys (all_map (λ x. IsApart x.name (y ∷ ys)) (λ x. IsApart x.name ys) (λ x p. p.1) xs h),
  )

  pub between : (xs : List (Item N K V)) (a : Item N K V) (ys : List (Item N K V)) → AllByRecursion (Has rows) xs → Has rows a → AllByRecursion (Has rows) ys → AreRising (under cmp) (xs ++ a ∷ ys) → Between xs a ys
  between xs a ys h k m u =
      let w = around (under cmp) xs a ys u in
      let c = apart_across xs ys h m w.across in
      record { left = apart_before a xs k h w.before; right = apart_behind a ys k m w.behind; across = c; back = turned xs ys c }

-- what stands stays where no name of it is written
pub stands_kept : {N K V : Type 0} (old new : Rows N K V) (P : N → Type 0) → ((n : N) (row : Row N K V) → P n → old n row → new n row)
    → (t : Tree (Item N K V)) → AllByRecursion (λ a. P a.name) (items t) → Stands old t → Stands new t
stands_kept old new P keeps leaf p h = tt
stands_kept old new P keeps (node l a r) p h =
    let back = all_back (λ b. P b.name) (items l) (a ∷ items r) p in
    (keeps a.name (row_of l a r) back.0 h.0, stands_kept old new P keeps l (all_front (λ b. P b.name) (items l) (a ∷ items r) p) h.1, stands_kept old new P keeps r back.1 h.2)

pub stands_grown : {N K V : Type 0} (old new : Rows N K V) → ((n : N) (row : Row N K V) → old n row → new n row) → (t : Tree (Item N K V)) → Stands old t → Stands new t
stands_grown old new grows leaf h = tt
stands_grown old new grows (node l a r) h = (grows a.name (row_of l a r) h.0, stands_grown old new grows l h.1, stands_grown old new grows r h.2)

module _ {N K V : Type 0} {old new : Rows N K V} {name : N} {row : Row N K V} (w : IsWritten old name row new) where
  -- a tree without the name
  pub beside : (t : Tree (Item N K V)) → IsApart name (items t) → Stands old t → Stands new t
  beside t p h = stands_kept old new (λ n. n ≢ name) w.stays t p h

-- a node whose row was written between its sides
pub linked : {N K V : Type 0} {old new : Rows N K V} (l : Tree (Item N K V)) (a : Item N K V) (r : Tree (Item N K V)) → IsWritten old a.name (row_of l a r) new
    → IsApart a.name (items l) → IsApart a.name (items r) → Stands old l → Stands old r → Stands new (node l a r)
linked l a r w p q h k = (w.there, beside w l p h, beside w r q k)
