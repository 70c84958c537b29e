-- What a run returns: the way that it went, what was output, and what is pending still.
use Rattle.std.specs.Prelude.{◌≡◌, ℕ, ◌≤◌, List, [], ◌++◌, Result, Ok, Err}
use Rattle.ps_port.specs.ps_outside.Outside.{Outside, LeavesSame, SameContents, TellsPrefix, ToldAll, Rose}
use Rattle.vault_output.specs.obj_layout.Stored.{Space}
use Rattle.vault_output.specs.obj_layout.declared.vault.VaultFault.TheVariants.{Device, Output, Full, NoPages, Damaged}
use Rattle.machine_core.specs.swizzle.declared.fault.SwizzleFault.{SwizzleFault}
use Rattle.machine_core.specs.swizzle.declared.fault.SwizzleFault.TheVariants.{AreaFull, Vault}
use Rattle.machine_core.specs.ps_heap.Ends.{report_of}
use Rattle.machine_core.specs.ps_heap.Events.{Event, outputs}
use Rattle.machine_core.specs.ps_stepping.Config.{Config}
use Rattle.machine_core.specs.ps_stepping.Machine.{Step, Stops, Steps}
use Rattle.machine_core.specs.ps_stepping.Path.{Reaches}
use Rattle.machine_core.specs.declared.run_end.RunEnd.{RunEnd}
use Rattle.machine_core.specs.Full.{BreaksBy}
use Rattle.machine_core.specs.ps_stepping.Plain.{PlainSteps}
use Rattle.machine_core.specs.Stepped.{end_of}

-- What a crash may leave and what is held stay at each moment, and no count sinks.
pub record LeavesAll (old new : Outside Space) : Type 0 where
  pub images : LeavesSame old new
  pub contents : SameContents old new
  pub device : old.device_faults ≤ new.device_faults
  pub output : old.output_faults ≤ new.output_faults

-- A prefix of these bytes was output at each moment.
pub record TellsFirst (old new : Outside Space) (bytes : List ℕ) : Type 0 where
  pub told : TellsPrefix old new bytes
  pub leaves : LeavesAll old new

-- in the end all of them, and the output didn't fail
pub record TellsAll (old new : Outside Space) (bytes : List ℕ) : Type 0 where
  pub first : TellsFirst old new bytes
  pub all : ToldAll old new bytes
  pub calm : new.output_faults ≡ old.output_faults

-- of them the first, and the others are pending
pub record TellsBut (old new : Outside Space) (due owed : List ℕ) : Type 0 where
  pub sent : List ℕ
  pub due_is : due ≡ sent ++ owed
  pub tells : TellsAll old new sent

-- or the output failed after a prefix of them
pub record FailsAfter (old new : Outside Space) (bytes : List ℕ) : Type 0 where
  pub first : TellsFirst old new bytes
  pub rose : Rose old.output_faults new.output_faults

-- Why a run broke off, whatever its machine stood for: a fault names the device or the output only where that failed, and never that the vault is full or in want of pages.
abbrev pub IsCause : Outside Space → Outside Space → SwizzleFault → Type 0
IsCause old new (AreaFull top wanted size) = Unit {0}
IsCause old new (Vault Device) = Rose old.device_faults new.device_faults
IsCause old new (Vault Output) = Rose old.output_faults new.output_faults
IsCause old new (Vault (Full used wanted capacity)) = ⊥
IsCause old new (Vault (NoPages held wanted pages)) = ⊥
IsCause old new (Vault (Damaged at found wanted)) = Unit {0}

-- From this configuration on a run had some events up to a last configuration, in an area of this size. What was pending at its start, and then this,
-- was output, but for what is pending at its end:
pub data Ran (old new : Outside Space) (owed left : List ℕ) (size : ℕ) (c : Config) : Result RunEnd SwizzleFault → Type 0 where
  -- the run stopped there: all that the events output, and the report of the end
  ended : {events : List Event} {last : Config} {e : RunEnd} {touched : ℕ} → Reaches c events last → Steps last (Stops (end_of e) touched)
      → TellsBut old new (owed ++ (outputs events ++ report_of (end_of e))) left → Ran old new owed left size c (Ok e)
  -- the next step broke off: all that the events output
  broke : {events : List Event} {last : Config} {s : Step} {fault : SwizzleFault} → Reaches c events last → PlainSteps last s → BreaksBy old new size s fault
      → TellsBut old new (owed ++ outputs events) left → Ran old new owed left size c (Err fault)
  -- the output failed: a prefix of what the events output, and nothing is pending
  cut : {events : List Event} {last : Config} → Reaches c events last → FailsAfter old new (owed ++ outputs events) → left ≡ []
      → Ran old new owed left size c (Err (Vault Output))
  -- the run stopped there, and the output failed in the report: a prefix of all that was to be output
  report_cut : {events : List Event} {last : Config} {touched : ℕ} (e : RunEnd) → Reaches c events last → Steps last (Stops (end_of e) touched)
      → FailsAfter old new (owed ++ (outputs events ++ report_of (end_of e))) → left ≡ [] → Ran old new owed left size c (Err (Vault Output))
