-- The input of a run, of which the first bytes were read.
use Rattle.std.specs.Prelude.{ℕ, ◌≤◌, List, drop, length}
use Rattle.machine_core.specs.declared.input.Input.TheInside.{Inside}

-- the bytes that are left
abbrev pub left_of : Inside → List ℕ
left_of input = drop input.read input.bytes.items

-- no more were read than there are
pub record IsWithin (input : Inside) : Type 0 where
  pub within : input.read ≤ length input.bytes.items
