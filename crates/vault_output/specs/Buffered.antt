-- How the buffer of an output is seen, and what is so of it.
use Rattle.std.specs.Prelude.{ℕ, ◌≤◌, List, length, vec_capacity}
use Rattle.vault_output.specs.declared.output.Output.TheInside.{Inside}

-- the bytes that are pending
abbrev pub owed_of : Inside → List ℕ
owed_of output = output.bytes.items

-- they are no more than a piece, and the memory for a piece was taken
pub record IsBuffer (output : Inside) : Type 0 where
  pub few : length output.bytes.items ≤ 65536
  pub taken : 65536 ≤ vec_capacity output.bytes
