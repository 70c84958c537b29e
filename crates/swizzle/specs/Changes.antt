-- How one map from names to objects becomes another.
use Rattle.std.specs.Prelude.{◌≡◌, ◌≢◌, ◌⊎◌}
use Rattle.obj_layout.specs.declared.reference.Reference.{Reference}
use Rattle.obj_layout.specs.declared.reference.Reference.TheVariants.{Nil}
use Rattle.swizzle.specs.Joint.{Shown}

-- a name has an object
pub record IsKnown (joint : Reference → Shown → Type 0) (name : Reference) : Type 0 where
  pub it : Shown
  pub is : joint name it

-- each object of the first is in the second
abbrev pub Within : (Reference → Shown → Type 0) → (Reference → Shown → Type 0) → Type 0
Within old new = (name : Reference) (it : Shown) → old name it → new name it

pub record Same (old new : Reference → Shown → Type 0) : Type 0 where
  pub grows : Within old new
  pub no_more : Within new old

-- the object of one name is now this one, and all else stays
pub record ChangedAt (old : Reference → Shown → Type 0) (name : Reference) (it : Shown) (new : Reference → Shown → Type 0) : Type 0 where
  pub there : new name it
  pub alone : (other : Shown) → new name other → other ≡ it
  pub stays : (n : Reference) (other : Shown) → n ≢ name → old n other → new n other
  pub no_more : (n : Reference) (other : Shown) → n ≢ name → new n other → old n other

-- what was done for a reference: nothing is lost, and where it was nil or had an object nothing has come
pub record Touched (old new : Reference → Shown → Type 0) (name : Reference) : Type 0 where
  pub grows : Within old new
  pub no_more : (name ≡ Nil) ⊎ IsKnown old name → Within new old
