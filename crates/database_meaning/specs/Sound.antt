-- What is so of all that a run holds, and when a heap is closed.
use Rattle.std.specs.Prelude.{◌≡◌, ◌⊎◌, ℕ, ◌<◌, List, [], ◌∷◌, length, Option, Some}
use Rattle.reaching.specs.Reaching.{IsIn}
use Rattle.ps_heap.specs.Objects.{Heap}
use Rattle.ps_heap.specs.References.{next_in}
use Rattle.ps_heap.specs.Databases.{open_for_writing}
use Rattle.ps_heap.specs.Held.{Held, Place, object_of, home_at, StoredHeap, reached_from_roots}

-- a place stands in a list
abbrev pub HasPlace : Place → List Place → Type 0
HasPlace place [] = ⊥
HasPlace place (other ∷ places) = (place ≡ other) ⊎ HasPlace place places

-- an object is committed: it has a home
abbrev pub IsCommitted : List (Option ℕ) → ℕ → Type 0
IsCommitted homes id = (n : ℕ) × (home_at homes id ≡ Some n)

-- assigned places are of committed objects, and a database that was made is open for writing
pub record IsSound (h : Held) : Type 0 where
  pub committed : (place : Place) → HasPlace place h.assigned → IsCommitted h.homes (object_of place)
  pub open_too : (n : ℕ) → IsIn n h.created → IsIn n (open_for_writing h.openings)

-- each reference is to an object that is there
abbrev pub AreThere : Heap → Type 0
AreThere heap = (x y : ℕ) → IsIn y (next_in heap x) → y < length heap

-- what a committed object refers to is committed
abbrev pub IsClosed : Heap → List (Option ℕ) → Type 0
IsClosed heap homes = (x y : ℕ) → IsCommitted homes x → IsIn y (next_in heap x) → IsCommitted homes y

-- what an assigned place of an object is
pub record IsAssigned (h : Held) (id : ℕ) : Type 0 where
  pub place : Place
  pub there : HasPlace place h.assigned
  pub object_is : object_of place ≡ id

-- the same of what a run holds, of each object of which no place is assigned
abbrev pub IsClosedButAssigned : Held → Type 0
IsClosedButAssigned h = (x y : ℕ) → IsCommitted h.homes x → IsIn y (next_in h.objects x) → IsCommitted h.homes y ⊎ IsAssigned h x

-- Each assigned place is of an object at home in a database open for writing; and one is not.
abbrev pub IsWritable : Held → Type 0
IsWritable h = (place : Place) (n : ℕ) → HasPlace place h.assigned → home_at h.homes (object_of place) ≡ Some n → IsIn n (open_for_writing h.openings)

pub record IsRefused (h : Held) : Type 0 where
  pub place : Place
  pub there : HasPlace place h.assigned
  pub home : ℕ
  pub home_is : home_at h.homes (object_of place) ≡ Some home
  pub closed : IsIn home (open_for_writing h.openings) → ⊥

-- each object that a root reaches has a home
abbrev pub AreHomed : StoredHeap → Type 0
AreHomed stored = (id : ℕ) → IsIn id (reached_from_roots stored) → IsCommitted stored.homes id

-- what is so of all that a run holds
pub record IsRight (h : Held) : Type 0 where
  pub sound : IsSound h
  pub there : AreThere h.objects
  -- what is committed is there
  pub homed : (id n : ℕ) → home_at h.homes id ≡ Some n → id < length h.objects
  pub closed : IsClosedButAssigned h
