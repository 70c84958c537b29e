-- What each call of a store says of the outside.
use Rattle.std.specs.Prelude.{◌≡◌, ◌≢◌, ◌⊎◌, ℕ, ◌+◌, ◌/◌, ◌≤◌, ◌<◌, Bool, true, false, List, Option, Some, None, Result, Err, OnOk, OnErr}
use Rattle.ps_outside.specs.Outside.{Outside, Leaves, LeavesSame, SameContents, TellsNothing, TellsPrefix, ToldAll, Rose, seen_as}
use Rattle.ps_outside.specs.Past.{KeepsPast}
use Rattle.obj_layout.specs.declared.vault.VaultFault.{VaultFault}
use Rattle.obj_layout.specs.declared.vault.VaultFault.TheVariants.{Device, Output, Full, NoPages, Damaged}
use Rattle.obj_layout.specs.Stored.{Space, damage_at, without_file}

-- Who else uses a vault: whether it may be written, whether it is alone, so that no snapshot holds pages of it, and what it is lent by those who use it too;
-- and whether something is staged.
pub record Access (L : Type 0) : Type 0 where
  pub writes : Bool
  pub alone : Bool
  pub lent : L
  pub staged : Bool

-- nobody else uses it
abbrev pub unshared : Bool → Access (Unit {0})
unshared staged = record { writes = true; alone = true; lent = tt; staged = staged }

-- the same, after everything was settled
abbrev pub all_settled : {L : Type 0} → Access L → Access L
all_settled access = record access { staged = false }

-- the same, whether or not something is staged
abbrev pub SameUsers : {L : Type 0} → Access L → Access L → Type 0
SameUsers old new = all_settled new ≡ all_settled old

-- What a vault says of itself stays: its used words, where its directory is, the most words that it may use, who else uses it and whether something is
-- staged.
abbrev pub SameNumbers : {V L : Type 0} → (V → ℕ) → (V → ℕ) → (V → ℕ) → (V → Access L) → V → V → Type 0
SameNumbers used directory most access old new =
    (used new ≡ used old) × (directory new ≡ directory old) × (most new ≡ most old) × (access new ≡ access old)

-- an outside whose images are seen by their words and their directory, whatever their files
abbrev pub unfiled : Outside Space → Outside Space
unfiled = seen_as without_file

-- A call that reads: it outputs nothing, leaves what a crash may leave, fails as the device only where that did, and takes at most so many device
-- calls where it is answered.
pub record IsStoreCall {T : Type 0} (old new : Outside Space) (most : ℕ) (result : Result T VaultFault) : Type 0 where
  pub told : TellsNothing old new
  pub images : LeavesSame old new
  pub counts : old.device_faults ≤ new.device_faults
  pub output : new.output_faults ≡ old.output_faults
  pub cause : result ≡ Err Device → Rose old.device_faults new.device_faults
  pub other : result ≢ Err Output
  pub calls : OnOk result (new.device_calls ≤ old.device_calls + most)

-- A call that stages words: as one that reads, but that it leaves of what a crash may leave the words and the directory alone.
pub record IsStagingCall {T : Type 0} (old new : Outside Space) (most : ℕ) (result : Result T VaultFault) : Type 0 where
  pub told : TellsNothing old new
  pub images : LeavesSame (unfiled old) (unfiled new)
  -- what a crash could leave at the moments that have been stays, file and all
  pub past : KeepsPast old new
  pub counts : old.device_faults ≤ new.device_faults
  pub output : new.output_faults ≡ old.output_faults
  pub cause : result ≡ Err Device → Rose old.device_faults new.device_faults
  pub other : result ≢ Err Output
  pub calls : OnOk result (new.device_calls ≤ old.device_calls + most)

-- Whether the object of a PID is damaged: where the contents are told, exactly by the tests.
pub record TestsObject {T : Type 0} (old : Outside Space) (pid : ℕ) (wanted : Option ℕ) (result : Result T VaultFault) : Type 0 where
  pub sound : OnOk result ((space : Space) → old.contents space → damage_at space.words pid wanted ≡ None)
  pub at_pid : (at found bound : ℕ) → result ≡ Err (Damaged at found bound) → at ≡ pid
  pub damaged : (at found bound : ℕ) → result ≡ Err (Damaged at found bound) → (space : Space) → old.contents space →
      damage_at space.words pid wanted ≡ Some (record { found = found; wanted = bound })

-- no object is tested
abbrev pub NeverDamaged : {T : Type 0} → Result T VaultFault → Type 0
NeverDamaged result = (at found bound : ℕ) → result ≢ Err (Damaged at found bound)

abbrev pub NeverFull : {T : Type 0} → Result T VaultFault → Type 0
NeverFull result = (used wanted capacity : ℕ) → result ≢ Err (Full used wanted capacity)

-- no page is wanted
abbrev pub NeverLacksPages : {T : Type 0} → Result T VaultFault → Type 0
NeverLacksPages result = (held wanted pages : ℕ) → result ≢ Err (NoPages held wanted pages)

-- Pages are lacked only beside snapshots, and where those that are held and those that are wanted are more than there are.
abbrev pub LacksPages : {T L : Type 0} → Access L → Result T VaultFault → Type 0
LacksPages access result = (held wanted pages : ℕ) → result ≡ Err (NoPages held wanted pages) → (access.alone ≡ false) × (pages < held + wanted)

-- after a fault no call may be made
abbrev pub DeadIfErr : {T : Type 0} → Type 0 → Result T VaultFault → Type 0
DeadIfErr alive result = OnErr result (alive → ⊥)

-- what is held afterwards is what was held, after a step
pub record Becomes (old new : Outside Space) (step : Space → Space) : Type 0 where
  pub told : (space : Space) → old.contents space → new.contents (step space)
  pub no_other : (after : Space) → new.contents after → (before : Space) × old.contents before × (step before ≡ after)

-- All that was staged is kept whole, or none of it, in whatever file: at each moment, and after an answer all of it, where a content is told.
pub record Settles {T : Type 0} (old new : Outside Space) (most : ℕ) (step : Space → Space) (result : Result T VaultFault) : Type 0 where
  pub told : TellsNothing old new
  pub past : KeepsPast old new
  pub images : Leaves (unfiled old) (unfiled new) (λ space. (unfiled old).images old.clock space ⊎ ((before : Space) × old.contents before × (step before ≡ space)))
  pub durable : OnOk result ((before space : Space) → old.contents before → (unfiled new).images new.clock space → new.contents space)
  pub counts : old.device_faults ≤ new.device_faults
  pub output : new.output_faults ≡ old.output_faults
  pub cause : result ≡ Err Device → Rose old.device_faults new.device_faults
  pub other : result ≢ Err Output
  pub calls : OnOk result (new.device_calls ≤ old.device_calls + most)

-- Bytes are output: a prefix of them at each moment, and after an answer all of them.
pub record Puts {T : Type 0} (old new : Outside Space) (bytes : List ℕ) (result : Result T VaultFault) : Type 0 where
  pub told : TellsPrefix old new bytes
  pub all : OnOk result (ToldAll old new bytes)
  pub images : LeavesSame old new
  pub contents : SameContents old new
  pub counts : old.output_faults ≤ new.output_faults
  pub calm : OnOk result (new.output_faults ≡ old.output_faults)
  pub device : new.device_faults ≡ old.device_faults
  pub cause : result ≡ Err Output → Rose old.output_faults new.output_faults
  pub other : result ≢ Err Device
  pub calls : new.device_calls ≡ old.device_calls

-- how many device calls an object of so many words may take, read and written; and a settling with so many used words, of which each page of the
-- map may be written, 1,024 pages of 512 words in each
abbrev pub reading : ℕ → ℕ
reading words = words / 512 + 4

abbrev pub writing : ℕ → ℕ
writing words = words / 256 + 6

abbrev pub settling : ℕ → ℕ
settling used = (used + 524287) / 524288 + 6
