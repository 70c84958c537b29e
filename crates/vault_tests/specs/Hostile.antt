-- A vault that is alive and holds no object.
use Rattle.std.specs.Prelude.{◌≡◌, ℕ, true, List}
use Rattle.memory_vault.specs.obj_layout.Stored.{Holds}
use Rattle.memory_vault.specs.Memory.{Memory, outside_of}

pub record HoldsNothing (vault : Memory) : Type 0 where
  pub alive : vault.alive ≡ true
  pub none : (pid : ℕ) (words : List ℕ) → Holds (outside_of vault) pid words → ⊥
