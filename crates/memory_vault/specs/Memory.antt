-- A vault in memory: what it keeps, and what is seen of it.
use Rattle.std.specs.Prelude.{◌≡◌, ℕ, ◌-◌, ◌^◌, min, max, Bool, true, false, nat_le, List, [], length, take, Option, Some, None, Result, Ok, Err}
use Rattle.obj_layout.specs.ps_outside.Outside.{Outside, next_count}
use Rattle.obj_layout.specs.declared.vault.VaultFault.{VaultFault}
use Rattle.obj_layout.specs.declared.vault.VaultFault.TheVariants.{Device, Output, Full, NoPages, Damaged}
use Rattle.obj_layout.specs.Stored.{Space, IsSpace}

-- what a vault in memory keeps
pub record Memory : Type 0 where
  -- the words that it holds, and the PID of their directory
  pub space : Space
  -- how many words it can hold, and how many bytes can be put
  pub room : ℕ
  -- the bytes that were put
  pub told : List ℕ
  -- the number of device calls, and of the faults of the device and of the output
  pub calls : ℕ
  pub device_faults : ℕ
  pub output_faults : ℕ
  -- the number of the first device call that fails, as each after it does; the calls are counted from 0
  pub failing : Option ℕ
  -- no call has answered a fault
  pub alive : Bool
  -- something was stored that isn't settled yet
  pub staged : Bool

-- a vault that is made with these words, and has had no call
abbrev pub fresh : List ℕ → ℕ → ℕ → Memory
fresh words directory room = record {
  space = record { words = words; directory = directory; file = [] };
  room = room;
  told = [];
  calls = 0;
  device_faults = 0;
  output_faults = 0;
  failing = None;
  alive = true;
  staged = false;
}

-- the number of used words and of those that can be used, within the bounds of every store
abbrev pub used_of : Memory → ℕ
used_of memory = max 1 (min (length memory.space.words) (2 ^ 30 - 1))

abbrev pub most_of : Memory → ℕ
most_of memory = min memory.room (2 ^ 30 - 1)

-- the one space that it tells
pub record IsTold (memory : Memory) (space : Space) : Type 0 where
  pub is : memory.space ≡ space
  pub sound : IsSpace (used_of memory) memory.space.directory space

-- what had been output at a moment: each byte that is put takes one
abbrev pub HadTold : Memory → ℕ → List ℕ → Type 0
HadTold memory moment bytes = bytes ≡ take moment memory.told

-- what is seen of it: its space, the bytes that were put, and its counts, but not what a crash leaves
abbrev pub outside_of : Memory → Outside Space
outside_of memory = record {
  clock = length memory.told;
  told = HadTold memory;
  images = λ moment space. ⊥;
  contents = IsTold memory;
  device_faults = memory.device_faults;
  output_faults = memory.output_faults;
  device_calls = memory.calls;
}

-- the next device call fails
abbrev pub fails_from : ℕ → Option ℕ → Bool
fails_from calls None = false
fails_from calls (Some number) = nat_le number calls

-- the vault after a fault
abbrev pub failed : VaultFault → Memory → Memory
failed Device memory = record memory { device_faults = next_count memory.device_faults; alive = false }
failed Output memory = record memory { output_faults = next_count memory.output_faults; alive = false }
failed (Full used wanted capacity) memory = record memory { alive = false }
failed (NoPages held wanted pages) memory = record memory { alive = false }
failed (Damaged at found wanted) memory = record memory { alive = false }

-- the vault after a device call, and after one that had this answer
abbrev pub called : Memory → Memory
called memory = record memory { calls = next_count memory.calls }

abbrev pub answered : {T : Type 0} → Result T VaultFault → Memory → Memory
answered (Ok _) memory = called memory
answered (Err fault) memory = failed fault (called memory)

-- the vault that holds another space
abbrev pub with_space : Space → Memory → Memory
with_space space memory = record memory { space = space }
