-- An object of the area gets a PID.
use Rattle.std.specs.Prelude.{◌≡◌, ℕ}
use Rattle.swizzle.specs.Objects.{Object}
use Rattle.swizzle.specs.Heap.{Heap, object_at, with_object}

-- with this PID, and the object that its chain goes on with
abbrev pub numbered : Object → ℕ → ℕ → Object
numbered object pid link = record object { header = record (object.header) { pid = pid; chain = link } }

abbrev pub with_pid : Heap → ℕ → ℕ → ℕ → Heap
with_pid heap at pid link = with_object heap at (numbered (object_at heap at) pid link)

-- The object got this PID; which object its chain goes on with is left open.
pub record GivesPid (old new : Heap) (at pid : ℕ) : Type 0 where
  pub link : ℕ
  pub is : new ≡ with_pid old at pid link
