-- Two ways to see the same objects: ids with their references, and objects that lie somewhere, between which others lie that have no id.
use Rattle.std.specs.Prelude.{◌≡◌, ◌⊎◌, ℕ}
use Rattle.reaching.specs.Reaching.{Reached}

-- one step or more, over objects that have no id
pub data Through (goes : ℕ → ℕ → Type 0) (may hidden : ℕ → Type 0) (x : ℕ) : ℕ → Type 0 where
  straight : (y : ℕ) (is : goes x y) (allowed : may y) → Through goes may hidden x y
  over : (z y : ℕ) (before : Through goes may hidden x z) (has_none : hidden z) (is : goes z y) (allowed : may y) → Through goes may hidden x y

pub record IsPaired (pair : ℕ → ℕ → Type 0) (x : ℕ) : Type 0 where
  pub id : ℕ
  pub is : pair x id

abbrev pub IsHidden : (ℕ → ℕ → Type 0) → ℕ → Type 0
IsHidden pair x = (i : ℕ) → pair x i → ⊥

-- an object that is paired with this id, to which others lead
pub record Target (pair : ℕ → ℕ → Type 0) (comes : ℕ → Type 0) (id : ℕ) : Type 0 where
  pub at : ℕ
  pub is : pair at id
  pub there : comes at

-- Where a search starts: at a root, or after a source.
pub record BehindOne (goes : ℕ → ℕ → Type 0) (source : ℕ → Type 0) (y : ℕ) : Type 0 where
  pub from : ℕ
  pub is : source from
  pub goes_there : goes from y

abbrev pub StartsOf : (ℕ → ℕ → Type 0) → (ℕ → Type 0) → (ℕ → Type 0) → ℕ → Type 0
StartsOf goes source root y = root y ⊎ BehindOne goes source y

-- What has to be shown of a pairing: a reference between ids is a way between their objects, and the other way round; the sources and the roots are paired.
pub record IsRefined (pair goes next : ℕ → ℕ → Type 0) (may free source root id_source id_root : ℕ → Type 0) : Type 0 where
  pub decided : (x : ℕ) → IsPaired pair x ⊎ IsHidden pair x
  pub forth : (x i j : ℕ) → pair x i → next i j → free j → Target pair (Through goes may (IsHidden pair) x) j
  pub back : (x i y j : ℕ) → pair x i → Through goes may (IsHidden pair) x y → pair y j → next i j × free j
  pub sources : (x : ℕ) → source x → Target (λ i y. pair y i) id_source x
  pub id_sources : (i : ℕ) → id_source i → Target pair source i
  pub roots : (x : ℕ) → root x → Target (λ i y. pair y i) (λ i. id_root i × free i) x
  pub id_roots : (i : ℕ) → id_root i → free i → Target pair (λ x. root x × may x) i
  pub one : (x i j : ℕ) → pair x i → pair x j → i ≡ j
