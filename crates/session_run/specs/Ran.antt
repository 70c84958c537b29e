-- What a run returns: the way that it went, what was output at each moment and what a crash left then, and what is pending still.
use Rattle.std.specs.Prelude.{◌≡◌, ◌⊎◌, ℕ, ◌+◌, ◌<◌, ◌≤◌, false, List, [], ◌∷◌, ◌++◌, Result, Ok, Err}
use Rattle.commit_moments.specs.Steps.{Step, heap_after, owing}
use Rattle.commit_moments.specs.Shown.{SoFar, Shown, BrokeOff}
use Rattle.machine_core.specs.ps_outside.Outside.{Outside, Rose}
use Rattle.machine_core.specs.ps_outside.Past.{KeepsPast, KeepsTold}
use Rattle.machine_core.specs.obj_layout.Stored.{Space}
use Rattle.machine_core.specs.obj_layout.Storing.{Access, SameUsers}
use Rattle.machine_core.specs.obj_layout.declared.vault.VaultFault.TheVariants.{Device, Output, Full, NoPages, Damaged}
use Rattle.machine_core.specs.swizzle.declared.fault.SwizzleFault.{SwizzleFault}
use Rattle.machine_core.specs.swizzle.declared.fault.SwizzleFault.TheVariants.{AreaFull, Vault}
use Rattle.machine_core.specs.ps_heap.Events.{Event, Commit}
use Rattle.machine_core.specs.ps_heap.Held.{StoredHeap}
use Rattle.machine_core.specs.ps_stepping.Config.{Config}
use Rattle.machine_core.specs.ps_stepping.Machine.{Goes, Stops, Steps}
use Rattle.machine_core.specs.ps_stepping.Machine as machine
use Rattle.machine_core.specs.ps_stepping.Path.{Reaches}
use Rattle.machine_core.specs.declared.run_end.RunEnd.{RunEnd}
use Rattle.machine_core.specs.Full.{BreaksBy}
use Rattle.machine_core.specs.Stepped.{end_of}
use Rattle.machine_commits.specs.Committing.{IsOfVault}
use Rattle.machine_commits.specs.machine_databases.Calls.{LacksRoom}
use Rattle.session_run.specs.Kept.{Kept, AtStart, Since, StandsAs, ReadsAs, steps_of, reporting}

-- What is seen of the moments before stays, and no count sinks.
pub record GoesOn (old new : Outside Space) : Type 0 where
  pub told : KeepsTold old new
  pub past : KeepsPast old new
  pub device : old.device_faults ≤ new.device_faults
  pub output : old.output_faults ≤ new.output_faults

-- Who else uses the vault, and the most words that it may use, stay.
abbrev pub SameLimits : {V L : Type 0} → (V → ℕ) → (V → Access L) → V → V → Type 0
SameLimits most access old new = (most new ≡ most old) × SameUsers (access old) (access new)

-- A step broke off in an area of this size: as a step of the machine does, or for want of room for an object that a call on databases makes.
abbrev pub BreaksFor : Outside Space → Outside Space → ℕ → machine.Step → SwizzleFault → Type 0
BreaksFor before after size s fault = BreaksBy before after size s fault ⊎ LacksRoom size s fault

module _ (old new : Outside Space) where
  -- Why a run broke off, whatever its machine stood for. A fault names the device or the output only where that failed; the vault is full only where there was no
  -- room for a new object, and lacks pages only beside snapshots.
  abbrev pub IsCause : {L : Type 0} → Access L → SwizzleFault → Type 0
  IsCause access (AreaFull top wanted size) = Unit {0}
  IsCause access (Vault Device) = Rose old.device_faults new.device_faults
  IsCause access (Vault Output) = Rose old.output_faults new.output_faults
  IsCause access (Vault (Full used wanted capacity)) = capacity < used + wanted
  IsCause access (Vault (NoPages held wanted pages)) = (access.alone ≡ false) × (pages < held + wanted)
  IsCause access (Vault (Damaged at found wanted)) = Unit {0}

  module _ (owed left : List ℕ) where
    -- What was pending at the start, and then these steps, were done so far, but for what is pending; a read gives what is kept then; and the output didn't fail.
    pub record HasDone (steps : List (Step Kept)) : Type 0 where
      pub so_far : SoFar (StandsAs old) AtStart old new (owing owed ∷ steps) left
      pub contents : (space : Space) → new.contents space → ReadsAs old space (heap_after AtStart steps)
      pub calm : new.output_faults ≡ old.output_faults

    -- The output failed in them: a prefix of what they output was output, and nothing is pending.
    pub record IsCut (steps : List (Step Kept)) : Type 0 where
      pub shown : Shown (StandsAs old) AtStart old new (owing owed ∷ steps)
      pub rose : Rose old.output_faults new.output_faults
      pub none : left ≡ []

    -- They were done, all that they output was output, and the vault failed in a commit of this heap, which a crash leaves whole or not at all.
    pub record BreaksIn (steps : List (Step Kept)) (heap : StoredHeap) : Type 0 where
      pub broke : BrokeOff (StandsAs old) AtStart old new (owing owed ∷ steps) (Since heap)
      pub none : left ≡ []
      pub calm : new.output_faults ≡ old.output_faults

    -- From this configuration on a run had some events up to a last configuration, in an area of this size.
    module _ {V : Type 0} (outside : V → Outside Space) where
      pub data Ran (size : ℕ) (c : Config) : Result RunEnd SwizzleFault → Type 0 where
        -- the run stopped there: all that the events output, and the report of the end
        ended : {events : List Event} {last : Config} {e : RunEnd} {touched : ℕ} → Reaches c events last → Steps last (Stops (end_of e) touched)
            → HasDone (steps_of events ++ reporting e ∷ []) → Ran size c (Ok e)
        -- the next step broke off, at which the vault was seen so
        broke : {events : List Event} {last : Config} {s : machine.Step} {fault : SwizzleFault} (vault : V) → Reaches c events last → Steps last s
            → BreaksFor (outside vault) new size s fault → HasDone (steps_of events) → Ran size c (Err fault)
        -- the vault failed in a commit
        broke_in : {events : List Event} {last next : Config} {heap : StoredHeap} {counted : ℕ} {fault : SwizzleFault} → Reaches c events last
            → Steps last (Goes (Commit heap counted ∷ []) next) → BreaksIn (steps_of events) heap → IsOfVault fault → Ran size c (Err fault)
        -- the output failed
        cut : {events : List Event} {last : Config} → Reaches c events last → IsCut (steps_of events) → Ran size c (Err (Vault Output))
        -- the run stopped there, and the output failed in the report
        report_cut : {events : List Event} {last : Config} {touched : ℕ} (e : RunEnd) → Reaches c events last → Steps last (Stops (end_of e) touched)
            → IsCut (steps_of events ++ reporting e ∷ []) → Ran size c (Err (Vault Output))
