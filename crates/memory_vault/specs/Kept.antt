-- What is so of a vault in memory at any time.
use Rattle.std.specs.Prelude.{◌^◌, ◌<◌, ◌≤◌, length}
use Rattle.std.specs.List.{AllByRecursion}
use Rattle.memory_vault.specs.Memory.{Memory}

-- it has word 0, no more words and bytes than there is room for, and its directory lies within the words
pub record IsKept (memory : Memory) : Type 0 where
  pub wide : AllByRecursion (λ word. word < 2 ^ 64) memory.space.words
  pub below : memory.space.directory < length memory.space.words
  pub within : length memory.space.words ≤ memory.room
  pub small : memory.room < 2 ^ 30
  pub put : length memory.told ≤ memory.room
