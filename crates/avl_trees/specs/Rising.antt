-- A finite map as the list of its entries, in the order of their keys. Where a key belongs is told by a probe: for each entry, whether the key is below
-- the entry's, is the entry's, or above it.
use Rattle.std.specs.Prelude.{◌≡◌, ◌≢◌, List, [], ◌∷◌, Option, Some, None}
use Rattle.std.specs.List.{AllByRecursion}
use Rattle.std.specs.declared.cmp.Ordering.{Ordering}
use Rattle.std.specs.declared.cmp.Ordering.TheVariants.{Less, Equal, Greater}

-- one of three
abbrev pub pick : {X : Type 0} → Ordering → X → X → X → X
pick Less x y z = x
pick Equal x y z = y
pick Greater x y z = z

-- each entry is below those after it
abbrev pub AreRising : {A : Type 0} → (A → A → Type 0) → List A → Type 0
AreRising below [] = Unit {0}
AreRising below (a ∷ more) = AllByRecursion (below a) more × AreRising below more

-- one entry is below another by an order
abbrev pub below : {A : Type 0} → (A → A → Ordering) → A → A → Type 0
below cmp a b = cmp a b ≡ Less

-- The probe parts entries that rise: a key that isn't above one entry is below those after it.
abbrev pub Parts : {A : Type 0} → (A → A → Type 0) → (A → Ordering) → Type 0
Parts {A} below probe = (a b : A) → below a b → probe a ≢ Greater → probe b ≡ Less

-- the entry of the key
abbrev pub find : {A : Type 0} → (A → Ordering) → List A → Option A
find probe [] = None
find probe (a ∷ more) = pick (probe a) None (Some a) (find probe more)

-- the first entry above the key
abbrev pub above : {A : Type 0} → (A → Ordering) → List A → Option A
above probe [] = None
above probe (a ∷ more) = pick (probe a) (Some a) (above probe more) (above probe more)

-- the first of two, where there is one
abbrev pub or_else : {X : Type 0} → Option X → Option X → Option X
or_else (Some x) other = Some x
or_else None other = other

-- the entries with one of the key: where it has one, that is changed, else the new one takes its place
abbrev pub enter : {A : Type 0} → (A → Ordering) → (A → A) → A → List A → List A
enter probe change new [] = new ∷ []
enter probe change new (a ∷ more) = pick (probe a) (new ∷ a ∷ more) (change a ∷ more) (a ∷ enter probe change new more)

-- the entries without that of the key
abbrev pub without : {A : Type 0} → (A → Ordering) → List A → List A
without probe [] = []
without probe (a ∷ more) = pick (probe a) (a ∷ more) more (a ∷ without probe more)

-- the new entry has the key, and a changed one keeps it
pub record Fits {A : Type 0} (below : A → A → Type 0) (probe : A → Ordering) (change : A → A) (new : A) : Type 0 where
  pub under : (a : A) → probe a ≡ Less → below new a
  pub over : (a : A) → probe a ≡ Greater → below a new
  pub up : (a b : A) → probe a ≡ Equal → below a b → below (change a) b
  pub down : (a b : A) → probe a ≡ Equal → below b a → below b (change a)
