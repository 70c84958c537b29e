-- What one step of a run does and outputs, or how far it came where it broke off.
use Rattle.std.specs.Prelude.{◌≡◌, ℕ, Bool, true, false, List, [], ◌++◌, Result, Ok, Err}
use Rattle.ps_port.specs.ps_outside.Outside.{Outside, Rose}
use Rattle.vault_output.specs.obj_layout.Stored.{Space}
use Rattle.vault_output.specs.obj_layout.declared.vault.VaultFault.TheVariants.{Output, Damaged}
use Rattle.machine_core.specs.swizzle.Heap.{header_at}
use Rattle.machine_core.specs.swizzle.declared.fault.SwizzleFault.{SwizzleFault}
use Rattle.machine_core.specs.swizzle.declared.fault.SwizzleFault.TheVariants.{Vault}
use Rattle.machine_core.specs.ps_heap.Ends.{report_of}
use Rattle.machine_core.specs.ps_heap.Events.{Event, outputs}
use Rattle.machine_core.specs.ps_stepping.Config.{Config}
use Rattle.machine_core.specs.ps_stepping.Machine.{Step, Goes, Stops}
use Rattle.machine_core.specs.declared.machine.Machine.{Machine}
use Rattle.machine_core.specs.declared.run_end.RunEnd.{RunEnd}
use Rattle.machine_core.specs.Holding.{Holds}
use Rattle.machine_core.specs.Full.{BreaksBy}
use Rattle.machine_core.specs.ps_stepping.Plain.{PlainSteps}
use Rattle.machine_core.specs.Stepped.{end_of}
use Rattle.machine_run.specs.declared.run.Advanced.{Advanced}
use Rattle.machine_run.specs.declared.run.Advanced.TheVariants.{On, Ended, Broke, Failed}
use Rattle.machine_run.specs.Ran.{IsCause, TellsBut, FailsAfter}

-- what is so where a run goes on
abbrev pub WhereOn : Advanced → Type 0 → Type 0
WhereOn On so = so
WhereOn Ended so = Unit {0}
WhereOn Broke so = Unit {0}
WhereOn Failed so = Unit {0}

-- and where the output failed
abbrev pub WhereFailed : Advanced → Type 0 → Type 0
WhereFailed On so = Unit {0}
WhereFailed Ended so = Unit {0}
WhereFailed Broke so = Unit {0}
WhereFailed Failed so = so

-- the vault is alive where a run goes on or ends
abbrev pub StaysAlive : Advanced → Type 0 → Type 0
StaysAlive On so = so
StaysAlive Ended so = so
StaysAlive Broke so = Unit {0}
StaysAlive Failed so = Unit {0}

-- how far a step came that sent what was due, or failed to
abbrev pub advanced_where : Bool → Advanced
advanced_where true = On
advanced_where false = Failed

module _ (old new : Outside Space) where
  module _ (owed left : List ℕ) where
    -- The step goes on, and outputs what its events do after what is pending; or it stops, or it broke off in an area of this size, and outputs nothing;
    -- or the output failed.
    abbrev pub AdvancesBy : ℕ → Step → Machine → Advanced → Type 0
    AdvancesBy size s m On = (events : List Event) × (next : Config) × (s ≡ Goes events next) × Holds new m next × TellsBut old new (owed ++ outputs events) left
    AdvancesBy size s m Ended = (touched : ℕ) × (s ≡ Stops (end_of m.end) touched) × TellsBut old new owed left
    AdvancesBy size s m Broke = BreaksBy old new size s m.fault × TellsBut old new owed left
    AdvancesBy size s m Failed = (events : List Event) × (next : Config) × (s ≡ Goes events next) × FailsAfter old new (owed ++ outputs events)

    -- What is due goes out but for what is left, or the output failed in it.
    abbrev pub SendsOn : Bool → Type 0
    SendsOn true = TellsBut old new owed left
    SendsOn false = FailsAfter old new owed

    -- From each configuration that the machine holds, the step did and output that.
    pub record Advances (m m' : Machine) (answer : Advanced) : Type 0 where
      pub size : WhereOn answer (m'.objects.size ≡ m.objects.size)
      pub cleared : WhereFailed answer (left ≡ [])
      pub by : (c : Config) → Holds old m c → (s : Step) × PlainSteps c s × AdvancesBy m.objects.size s m' answer

    -- the report of an end is output after what is pending, or the output failed in it
    abbrev pub Reports : RunEnd → Result RunEnd SwizzleFault → Type 0
    Reports e (Ok answer) = (answer ≡ e) × TellsBut old new (owed ++ report_of (end_of e)) left
    Reports e (Err fault) = (fault ≡ Vault Output) × FailsAfter old new (owed ++ report_of (end_of e)) × (left ≡ [])

  -- why it came no further, whatever the machine stands for
  abbrev pub CausedBy : Machine → Advanced → Type 0
  CausedBy m On = Unit {0}
  CausedBy m Ended = Unit {0}
  CausedBy m Broke = IsCause old new m.fault
  CausedBy m Failed = Rose old.output_faults new.output_faults

-- The code that runs is damaged at this offset: the fault has its PID, the offset, and how many bytes the code has.
abbrev pub BlamesCode : Machine → ℕ → SwizzleFault → Type 0
BlamesCode m at fault = fault ≡ Vault (Damaged (header_at m.objects m.code).pid at m.place.count)
