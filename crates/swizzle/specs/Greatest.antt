-- The greatest PID of the objects of an area.
use Rattle.std.specs.Prelude.{◌≡◌, ◌⊎◌, ℕ, ◌≤◌, List, Some}
use Rattle.swizzle.specs.Objects.{Object, find_from}

-- an object with this PID begins somewhere
pub record HasPid (objects : List Object) (pid : ℕ) : Type 0 where
  pub at : ℕ
  pub object : Object
  pub is : find_from 1 objects at ≡ Some object
  pub pid_is : object.header.pid ≡ pid

-- No object has a greater PID, and one has this one; or it is 0.
pub record IsGreatest (objects : List Object) (pid : ℕ) : Type 0 where
  pub all : (at : ℕ) (object : Object) → find_from 1 objects at ≡ Some object → object.header.pid ≤ pid
  pub some : (pid ≡ 0) ⊎ HasPid objects pid
