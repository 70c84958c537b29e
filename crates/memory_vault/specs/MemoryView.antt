-- How the fields of a `MemoryVault` are seen, and what is so of them.
use Rattle.std.specs.Prelude.{◌≤◌, [], vec_capacity}
use Rattle.memory_vault.specs.Memory.{Memory}
use Rattle.memory_vault.specs.Kept.{IsKept}
use Rattle.memory_vault.specs.declared.memory.MemoryVault.TheInside.{Inside}

abbrev pub memory_of : Inside → Memory
memory_of vault = record {
  space = record { words = vault.words.items; directory = vault.directory; file = [] };
  room = vault.room;
  told = vault.told.items;
  calls = vault.calls;
  device_faults = vault.device_faults;
  output_faults = vault.output_faults;
  failing = vault.failing;
  alive = vault.alive;
  staged = vault.staged;
}

-- what it keeps is in order, and the memory for all of the room was taken
pub record IsKeptIn (vault : Inside) : Type 0 where
  pub kept : IsKept (memory_of vault)
  pub words_taken : vault.room ≤ vec_capacity vault.words
  pub bytes_taken : vault.room ≤ vec_capacity vault.told
