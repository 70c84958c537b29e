-- What a commit does in a machine, and what it leaves outside.
use Rattle.std.specs.Prelude.{◌≡◌, ◌⊎◌, ℕ, ◌+◌, ◌<◌, ◌≤◌, false, List, [], ◌∷◌}
use Rattle.machine_core.specs.ps_outside.Outside.{Outside, TellsNothing, Rose}
use Rattle.machine_core.specs.ps_outside.Past.{KeepsPast}
use Rattle.machine_core.specs.obj_layout.Stored.{Space}
use Rattle.machine_core.specs.obj_layout.Storing.{Access}
use Rattle.machine_core.specs.obj_layout.declared.vault.VaultFault.TheVariants.{Device, Output, Full, NoPages, Damaged}
use Rattle.machine_core.specs.swizzle.Reading.{LeavesOutside}
use Rattle.machine_core.specs.swizzle.declared.fault.SwizzleFault.{SwizzleFault}
use Rattle.machine_core.specs.swizzle.declared.fault.SwizzleFault.TheVariants.{AreaFull, Vault}
use Rattle.machine_core.specs.ps_heap.Calls.{commit_call}
use Rattle.machine_core.specs.ps_heap.Events.{Event, Commit}
use Rattle.machine_core.specs.ps_heap.Held.{StoredHeap}
use Rattle.machine_core.specs.ps_stepping.Config.{Config}
use Rattle.machine_core.specs.ps_stepping.Steps.{Step, Goes, Stuck}
use Rattle.machine_core.specs.ps_stepping.Library.{gives_ref}
use Rattle.machine_core.specs.declared.machine.Machine.{Machine}
use Rattle.machine_core.specs.declared.stepped.Stepped.{Stepped}
use Rattle.machine_core.specs.declared.stepped.Stepped.TheVariants as stepped
use Rattle.machine_core.specs.Holding.{Holds, IsSound}
use Rattle.machine_core.specs.Naming.{NamesObjects}
use Rattle.machine_core.specs.Stepped.{UnlessBroken}
use Rattle.machine_databases.specs.Calls.{LacksRoom}
use Rattle.joint_commit.specs.Saving.{LeavesEither, LeavesHeap}

-- the step of a run that is at a commit
abbrev pub commits : Config → Step
commits c = gives_ref (commit_call c.store.held) c

-- a fault of the vault that is none of the output
abbrev pub IsOfVault : SwizzleFault → Type 0
IsOfVault (AreaFull top wanted size) = ⊥
IsOfVault (Vault Device) = Unit {0}
IsOfVault (Vault Output) = ⊥
IsOfVault (Vault (Full used wanted capacity)) = Unit {0}
IsOfVault (Vault (NoPages held wanted pages)) = Unit {0}
IsOfVault (Vault (Damaged at found wanted)) = Unit {0}

module _ (before after : Outside Space) where
  -- Nothing is output, what a crash could leave at the moments that have been stays, and no count sinks.
  pub record IsSilent : Type 0 where
    pub told : TellsNothing before after
    pub past : KeepsPast before after
    pub device : before.device_faults ≤ after.device_faults
    pub output : after.output_faults ≡ before.output_faults

  -- Where nothing is committed, what is held and what a crash may leave stays; else the vault stands for the heap that is committed.
  abbrev pub LeavesBy : List Event → Type 0
  LeavesBy [] = LeavesOutside before after
  LeavesBy (Commit h counted ∷ []) = LeavesHeap before after h
  LeavesBy _ = ⊥

  -- It broke off: there was no room for an object of an error record; or the vault failed where a heap was to be committed, and a crash leaves that one whole, or
  -- what it left before.
  abbrev pub BreaksIn : ℕ → Config → SwizzleFault → Type 0
  BreaksIn size c fault =
      (LacksRoom size (commits c) fault × LeavesOutside before after)
      ⊎ ((heap : StoredHeap) × (counted : ℕ) × (next : Config) × (commits c ≡ Goes (Commit heap counted ∷ []) next) × LeavesEither before after heap
      × IsOfVault fault)

  -- The step is what was answered. Where the run goes on, the machine holds the next configuration.
  abbrev pub DoesCommit : ℕ → Config → Stepped → Machine → Type 0
  DoesCommit size c stepped.Quiet m = (events : List Event) × (next : Config) × (commits c ≡ Goes events next) × Holds after m next × LeavesBy events
  DoesCommit size c stepped.Breaks m = BreaksIn size c m.fault
  DoesCommit size c stepped.Damaged m = (commits c ≡ Stuck) × LeavesOutside before after
  DoesCommit size c _ m = ⊥

  -- From each configuration that the machine holds, the commit is what was answered. Whatever it holds, its words name objects of the area, and the area keeps
  -- its size.
  pub record TakesCommit (old new : Machine) (answer : Stepped) : Type 0 where
    pub sound : IsSound new
    pub names : UnlessBroken answer (NamesObjects new)
    pub size : UnlessBroken answer (new.objects.size ≡ old.objects.size)
    pub does : (c : Config) → Holds before old c → DoesCommit old.objects.size c answer new

  -- Why it broke off, whatever the machine stands for: the device failed; there was no room on the vault for a new object; or pages were lacked beside
  -- snapshots.
  abbrev pub FailsBy : {L : Type 0} → Access L → SwizzleFault → Type 0
  FailsBy access (AreaFull top wanted size) = Unit {0}
  FailsBy access (Vault Device) = Rose before.device_faults after.device_faults
  FailsBy access (Vault Output) = ⊥
  FailsBy access (Vault (Full used wanted capacity)) = capacity < used + wanted
  FailsBy access (Vault (NoPages held wanted pages)) = (access.alone ≡ false) × (pages < held + wanted)
  FailsBy access (Vault (Damaged at found wanted)) = Unit {0}

  abbrev pub FailsCommitting : {L : Type 0} → Access L → Stepped → Machine → Type 0
  FailsCommitting access stepped.Breaks m = FailsBy access m.fault
  FailsCommitting access _ m = Unit {0}
