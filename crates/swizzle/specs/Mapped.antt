-- How the PIDs of an area's objects are mapped: the chains of the map lead through the objects themselves.
use Rattle.std.specs.Prelude.{◌≡◌, ℕ, ◌+◌, ◌^◌, ◌<◌, ◌≤◌, List, length, Some, unwrap_or}
use Rattle.pid_map.specs.Chains.{Belongs, IsInMap}
use Rattle.swizzle.specs.Objects.{Object, words_of_all, objects_of, find_from}
use Rattle.swizzle.specs.Heap.{Heap, IsHeap, nothing}

-- the PID of the object that begins there
unfoldable pub pid_at : List Object → ℕ → ℕ
pid_at os at = (unwrap_or (find_from 1 os at) nothing).header.pid

-- the object that its chain goes on with, 0 for none
unfoldable pub link_at : List Object → ℕ → ℕ
link_at os at = (unwrap_or (find_from 1 os at) nothing).header.chain

-- an object begins there, whose link is a number of 32 bits
pub record IsLinked (os : List Object) (at : ℕ) : Type 0 where
  pub object : Object
  pub is : find_from 1 os at ≡ Some object
  pub small : object.header.chain < 2 ^ 32

-- The chains with these heads lead through exactly the objects that have a PID.
pub record AreChained (os : List Object) (heads : List ℕ) : Type 0 where
  pub belongs : Belongs heads (pid_at os) (link_at os) (IsLinked os)
  pub all : (at : ℕ) (object : Object) → find_from 1 os at ≡ Some object → 1 ≤ object.header.pid → IsInMap belongs at
  pub only : (at : ℕ) → IsInMap belongs at → 1 ≤ pid_at os at

-- The objects that were assigned, and those that a walk has reached, each once, in order.
pub record Noted : Type 0 where
  pub assigned : List ℕ
  pub reached : List ℕ

-- the heap of an area with these words
abbrev pub heap_from : List ℕ → ℕ → Noted → Heap
heap_from words size noted = record { objects = objects_of words; size = size; assigned = noted.assigned; reached = noted.reached }

-- a linked object begins there in an area that is cut into the objects of some heap
pub record IsPlaceIn (words : List ℕ) (size at : ℕ) : Type 0 where
  pub noted : Noted
  pub cut : words_of_all (objects_of words) ≡ words
  pub heap : IsHeap (heap_from words size noted)
  pub linked : IsLinked (objects_of words) at
  pub from : 1 ≤ at
  pub below : at < 1 + length words
