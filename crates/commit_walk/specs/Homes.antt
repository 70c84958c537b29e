-- Homes: what a walk gives the objects that it lists.
use Rattle.std.specs.Prelude.{◌≡◌, ◌≢◌, ℕ, ◌<◌, ◌≤◌, true, false, List, length, get_or, Option, Some, None, IfSome}
use Rattle.swizzle.specs.Heap.{Heap, IsHeld, header_at, num_at}
use Rattle.reaching.specs.Reaching.{IsIn}
use Rattle.commit_walk.specs.Walk.{Steady, Finds, IsSearched, IsClosed, has_home}
use Rattle.commit_walk.specs.declared.homes.Source.{Source}

-- One object has this home, where it may have one; else it stays.
pub record GivesHome (old new : Heap) (x number : ℕ) : Type 0 where
  pub same : Steady old new
  pub reached : new.reached ≡ old.reached
  pub given : has_home (header_at old x) ≡ true → num_at new x 0 ≡ number
  pub plain : has_home (header_at old x) ≡ false → num_at new x 0 ≡ num_at old x 0
  pub others : (y : ℕ) → y ≢ x → num_at new y 0 ≡ num_at old y 0

-- objects that may have no home stay as they are
abbrev pub PlainStay : Heap → Heap → Type 0
PlainStay old new = (y : ℕ) → has_home (header_at old y) ≡ false → num_at new y 0 ≡ num_at old y 0

-- The objects of a list have it from one place on and before another.
pub record GivesHomes (old new : Heap) (list : List ℕ) (from to number : ℕ) : Type 0 where
  pub same : Steady old new
  pub reached : new.reached ≡ old.reached
  pub given : (place : ℕ) → from ≤ place → place < to → has_home (header_at old (get_or list place 0)) ≡ true → num_at new (get_or list place 0) 0 ≡ number
  pub others : (y : ℕ) → ((place : ℕ) → from ≤ place → place < to → y ≢ get_or list place 0) → num_at new y 0 ≡ num_at old y 0
  pub plain : PlainStay old new

-- The objects that a search lists, and no others, have their home in its database.
pub record IsHomedOne (old new : Heap) (number : ℕ) (root : Option ℕ) (before after : List ℕ) : Type 0 where
  pub searched : IsSearched old number root before after
  pub same : Steady old new
  pub given : (y : ℕ) → IsIn y after → (IsIn y before → ⊥) → has_home (header_at old y) ≡ true → num_at new y 0 ≡ number
  pub kept : (y : ℕ) → IsIn y before → num_at new y 0 ≡ num_at old y 0
  pub others : (y : ℕ) → (IsIn y after → ⊥) → num_at new y 0 ≡ num_at old y 0
  pub plain : PlainStay old new

abbrev pub source_at : List Source → ℕ → Source
source_at sources place = get_or sources place (record { number = 0; root = None })

abbrev pub FindsFrom : Heap → List Source → ℕ → ℕ → Type 0
FindsFrom heap sources place y = Finds heap (source_at sources place).number (source_at sources place).root y

-- The first source, of the first so many, that finds an object; the object has its home there afterwards, where it may have one.
pub record IsFirst (old new : Heap) (sources : List Source) (count y : ℕ) : Type 0 where
  pub place : ℕ
  pub below : place < count
  pub finds : FindsFrom old sources place y
  pub first : (p : ℕ) → p < place → FindsFrom old sources p y → ⊥
  pub home : has_home (header_at old y) ≡ true → num_at new y 0 ≡ (source_at sources place).number

-- one of the first so many finds it
pub record IsFound (heap : Heap) (sources : List Source) (count y : ℕ) : Type 0 where
  pub place : ℕ
  pub below : place < count
  pub finds : FindsFrom heap sources place y

abbrev pub AreRoots : Heap → List Source → Type 0
AreRoots heap sources = (place : ℕ) → place < length sources → IfSome (source_at sources place).root (IsHeld heap)

-- What is listed after the first so many sources: exactly what they find, each object with its home in the first one that finds it.
pub record IsHomed (old new : Heap) (sources : List Source) (count : ℕ) (list : List ℕ) : Type 0 where
  pub same : Steady old new
  pub first : (y : ℕ) → IsIn y list → IsFirst old new sources count y
  pub all : (y : ℕ) → IsFound old sources count y → IsIn y list
  pub closed : IsClosed old list
  pub others : (y : ℕ) → (IsIn y list → ⊥) → num_at new y 0 ≡ num_at old y 0
  pub plain : PlainStay old new

-- A root has the database as its home, where there is one.
abbrev pub OwnsRoot : Heap → Heap → Option ℕ → ℕ → Type 0
OwnsRoot old new None number = new ≡ old
OwnsRoot old new (Some at) number = GivesHome old new at number

-- The roots of the first so many sources have their own databases as homes, and no other home has changed.
pub record OwnsRoots (old new : Heap) (sources : List Source) (count : ℕ) : Type 0 where
  pub same : Steady old new
  pub reached : new.reached ≡ old.reached
  pub given : (place at : ℕ) → place < count → (source_at sources place).root ≡ Some at → has_home (header_at old at) ≡ true →
      ((p : ℕ) → p < count → (source_at sources p).root ≡ Some at → p ≡ place) → num_at new at 0 ≡ (source_at sources place).number
  pub others : (y : ℕ) → ((place : ℕ) → place < count → (source_at sources place).root ≢ Some y) → num_at new y 0 ≡ num_at old y 0
  pub plain : PlainStay old new
