-- Which objects become stored, and at home in which database.
use Rattle.std.specs.Prelude.{◌≡◌, ℕ, ◌+◌, ◌<◌, List, [], ◌∷◌, ◌++◌, length, Option, Some}
use Rattle.swizzle.specs.obj_layout.declared.kind.Kind.TheVariants.{Table}
use Rattle.swizzle.specs.Heap.{Heap, IsHeld, header_at, num_at}
use Rattle.reaching.specs.Reaching.{IsIn}
use Rattle.commit_walk.specs.Walk.{Steady, IsClosed}
use Rattle.commit_walk.specs.declared.homes.Source.{Source}
use Rattle.commit_walk.specs.Homes.{source_at, IsFound, IsFirst, PlainStay}

-- The root of a database that was made: a table that isn't stored yet, and is the root of no other.
pub record IsNewRoot (heap : Heap) (writing : List Source) (place at : ℕ) : Type 0 where
  pub held : IsHeld heap at
  pub unstored : (header_at heap at).pid ≡ 0
  pub kind : (header_at heap at).kind ≡ Table
  pub only : (p : ℕ) → p < length writing → (source_at writing p).root ≡ Some at → p ≡ place

abbrev pub AreNewRoots : Heap → List Source → Type 0
AreNewRoots heap writing = (place at : ℕ) → place < length writing → (source_at writing place).root ≡ Some at → IsNewRoot heap writing place at

-- The databases that are open for writing, in the order in which they became so; and last the directory, in which no object is at home.
abbrev pub with_directory : List Source → Option ℕ → List Source
with_directory writing directory = writing ++ record { number = 0; root = directory } ∷ []

-- one of these reaches the object
abbrev pub IsReached : Heap → List Source → Option ℕ → ℕ → Type 0
IsReached heap writing directory y = IsFound heap (with_directory writing directory) (length writing + 1) y

-- it is the root of a database that was made
pub record IsRoot (writing : List Source) (y : ℕ) : Type 0 where
  pub place : ℕ
  pub below : place < length writing
  pub is : (source_at writing place).root ≡ Some y

-- Homes: the root of a database that was made is at home there; any other object of the list, where it may have a home, in the first database that reaches
-- it; and all others stay at home where they are.
pub record HaveHomes (old new : Heap) (writing : List Source) (directory : Option ℕ) (list : List ℕ) : Type 0 where
  pub root : (place at : ℕ) → place < length writing → (source_at writing place).root ≡ Some at → num_at new at 0 ≡ (source_at writing place).number
  pub first : (y : ℕ) → IsIn y list → (IsRoot writing y → ⊥) → IsFirst old new (with_directory writing directory) (length writing + 1) y
  pub others : (y : ℕ) → (IsIn y list → ⊥) → num_at new y 0 ≡ num_at old y 0
  pub plain : PlainStay old new

-- What is reached was listed, with homes, and nothing else has changed.
pub record Lists (old new : Heap) (writing : List Source) (directory : Option ℕ) : Type 0 where
  pub steady : Steady old new
  pub only : (y : ℕ) → IsIn y new.reached → IsReached old writing directory y
  pub all : (y : ℕ) → IsReached old writing directory y → IsIn y new.reached
  pub closed : IsClosed old new.reached
  pub homes : HaveHomes old new writing directory new.reached
