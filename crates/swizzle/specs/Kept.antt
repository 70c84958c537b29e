-- What a swizzle keeps: the words of the area are its objects, the map finds each PID, the greatest of them is known, and there is room beside the
-- area for all objects.
use Rattle.std.specs.Prelude.{◌≡◌, ℕ, ◌+◌, ◌*◌, ◌≤◌, List, length}
use Rattle.swizzle.specs.Objects.{Object, words_of_all, objects_of}
use Rattle.swizzle.specs.Heap.{IsHeap}
use Rattle.swizzle.specs.Greatest.{IsGreatest}
pub use Rattle.swizzle.specs.Mapped.{AreChained, Noted, heap_from}

-- What stands beside the area: the heads of the map's chains, the greatest PID, and the room of the lists of the assigned and of the reached, and of
-- the buffer.
pub record Beside : Type 0 where
  pub places : ℕ
  pub stops : ℕ
  pub heads : List ℕ
  pub greatest : ℕ
  pub room : ℕ

-- with room for so many assigned and so many reached objects
abbrev pub with_room : Beside → ℕ → ℕ → Beside
with_room beside places stops = record beside { places = places; stops = stops }

-- after an object was put into the map
abbrev pub with_map : Beside → List ℕ → ℕ → Beside
with_map beside heads greatest = record beside { heads = heads; greatest = greatest }

-- The map finds each PID of these objects, and no other; and the greatest of them is known.
pub record IsMapped (objects : List Object) (size : ℕ) (beside : Beside) : Type 0 where
  pub some : 1 ≤ length beside.heads
  pub chained : AreChained objects beside.heads
  pub greatest : IsGreatest objects beside.greatest
  pub for_fetch : size ≤ beside.room + 1

pub record IsKept (words : List ℕ) (size : ℕ) (noted : Noted) (beside : Beside) : Type 0 where
  pub cut : words_of_all (objects_of words) ≡ words
  pub heap : IsHeap (heap_from words size noted)
  -- no object has less than five words
  pub for_assigned : size ≤ 5 * beside.places + 5
  pub for_reached : size ≤ 5 * beside.stops + 5
  pub pids : IsMapped (objects_of words) size beside
