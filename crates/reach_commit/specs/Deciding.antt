-- Whether a commit is refused, has nothing to do, or stores.
use Rattle.std.specs.Prelude.{◌≡◌, ◌⊎◌, ℕ, ◌<◌, ◌≤◌, true, List, length, Some}
use Rattle.swizzle.specs.Heap.{Heap, header_at, num_at}
use Rattle.reaching.specs.Reaching.{IsIn}
use Rattle.commit_walk.specs.Walk.{has_home}
use Rattle.commit_walk.specs.declared.homes.Source.{Source}
use Rattle.commit_walk.specs.Homes.{source_at}

-- the object is stored, and is at home in a database
pub record IsHomed (heap : Heap) (x : ℕ) : Type 0 where
  pub stored : 1 ≤ (header_at heap x).pid
  pub kind : has_home (header_at heap x) ≡ true

-- such an object was assigned
pub record IsAssigned (heap : Heap) (x : ℕ) : Type 0 where
  pub listed : IsIn x heap.assigned
  pub homed : IsHomed heap x

-- a database of this number is open for writing
pub record IsWriting (writing : List Source) (number : ℕ) : Type 0 where
  pub place : ℕ
  pub below : place < length writing
  pub is : (source_at writing place).number ≡ number

-- each assigned object is at home in a database that is open for writing
abbrev pub AreWritable : Heap → List Source → Type 0
AreWritable heap writing = (x : ℕ) → IsAssigned heap x → IsWriting writing (num_at heap x 0)

-- this one, which is at home there, isn't
pub record IsRefused (heap : Heap) (writing : List Source) (object home : ℕ) : Type 0 where
  pub assigned : IsAssigned heap object
  pub home_is : home ≡ num_at heap object 0
  pub closed : IsWriting writing home → ⊥

-- a database was made
pub record IsMade (writing : List Source) : Type 0 where
  pub place : ℕ
  pub below : place < length writing
  pub root : ℕ
  pub is : (source_at writing place).root ≡ Some root

-- something was assigned, or a database was made
abbrev pub HasWork : Heap → List Source → Type 0
HasWork heap writing = ((x : ℕ) × IsAssigned heap x) ⊎ IsMade writing

-- nothing was
pub record IsIdle (heap : Heap) (writing : List Source) : Type 0 where
  pub assigned : (x : ℕ) → IsAssigned heap x → ⊥
  pub made : IsMade writing → ⊥
