-- What one step of a run does and outputs, or how far it came where it broke off.
use Rattle.std.specs.Prelude.{◌≡◌, ◌⊎◌, ℕ, Bool, true, false, List, [], ◌∷◌, ◌++◌}
use Rattle.ps_base.specs.declared.instr.Instr.{Instr}
use Rattle.machine_core.specs.ps_outside.Outside.{Outside, Rose}
use Rattle.machine_core.specs.obj_layout.Stored.{Space}
use Rattle.machine_core.specs.obj_layout.Storing.{Access}
use Rattle.machine_core.specs.swizzle.declared.fault.SwizzleFault.{SwizzleFault}
use Rattle.machine_commits.specs.Committing.{IsOfVault}
use Rattle.machine_core.specs.ps_heap.Events.{Event, Commit, outputs}
use Rattle.machine_core.specs.ps_heap.Held.{StoredHeap}
use Rattle.machine_core.specs.ps_stepping.Config.{Config}
use Rattle.machine_core.specs.ps_stepping.Machine.{Step, Goes, Stops, Steps, acts}
use Rattle.machine_core.specs.ps_stepping.Plain.{is_plain}
use Rattle.machine_core.specs.declared.machine.Machine.{Machine}
use Rattle.machine_core.specs.Full.{BreaksBy}
use Rattle.machine_core.specs.Holding.{Holds}
use Rattle.machine_core.specs.Stepped.{end_of}
use Rattle.machine_run.specs.Ran.{TellsBut, FailsAfter}
use Rattle.database_steps.specs.Databases.{IsAlone}
use Rattle.session_run.specs.Kept.{steps_of}
use Rattle.session_run.specs.Ran.{IsCause, BreaksFor, HasDone, IsCut, BreaksIn}
use Rattle.session_run.specs.declared.advanced.Advanced.{Advanced}
use Rattle.session_run.specs.declared.advanced.Advanced.TheVariants.{On, Ended, Broke, Failed}

-- what is so where a run goes on
abbrev pub WhereOn : Advanced → Type 0 → Type 0
WhereOn On so = so
WhereOn _ so = Unit {0}

-- and where the output failed
abbrev pub WhereFailed : Advanced → Type 0 → Type 0
WhereFailed Failed so = so
WhereFailed _ so = Unit {0}

-- the vault is alive where a run goes on or ends
abbrev pub StaysAlive : Advanced → Type 0 → Type 0
StaysAlive On so = so
StaysAlive Ended so = so
StaysAlive _ so = Unit {0}

-- how far a step came that sent what was due, or failed to
abbrev pub advanced_where : Bool → Advanced
advanced_where true = On
advanced_where false = Failed

module _ (old new : Outside Space) where
  -- why it came no further, whatever the machine stands for
  abbrev pub CausedBy : {L : Type 0} → Access L → Machine → Advanced → Type 0
  CausedBy access m Broke = IsCause old new access m.fault
  CausedBy access m Failed = Rose old.output_faults new.output_faults
  CausedBy access m _ = Unit {0}

  module _ (owed left : List ℕ) where
    -- The step of an instruction that isn't one of databases goes on, and outputs what its events do after what is pending; or it stops, or it broke off in an area
    -- of this size, and outputs nothing; or the output failed.
    abbrev pub PlainlyTo : ℕ → Step → Machine → Advanced → Type 0
    PlainlyTo size s m On = (events : List Event) × (next : Config) × (s ≡ Goes events next) × Holds new m next × TellsBut old new (owed ++ outputs events) left
    PlainlyTo size s m Ended = (touched : ℕ) × (s ≡ Stops (end_of m.end) touched) × TellsBut old new owed left
    PlainlyTo size s m Broke = BreaksBy old new size s m.fault × TellsBut old new owed left
    PlainlyTo size s m Failed = (events : List Event) × (next : Config) × (s ≡ Goes events next) × FailsAfter old new (owed ++ outputs events)

    -- From each configuration that the machine holds, after the instruction, that is what came of it.
    pub record Plainly (of : Config → Step) (m m' : Machine) (answer : Advanced) : Type 0 where
      pub size : WhereOn answer (m'.objects.size ≡ m.objects.size)
      pub cleared : WhereFailed answer (left ≡ [])
      pub by : (c : Config) → Holds old m c → PlainlyTo m.objects.size (of c) m' answer

    -- the vault failed while this step was to commit
    abbrev pub CommitBreaks : Step → SwizzleFault → Type 0
    CommitBreaks s fault = (heap : StoredHeap) × (counted : ℕ) × (next : Config) × (s ≡ Goes (Commit heap counted ∷ []) next) × BreaksIn old new owed left [] heap
        × IsOfVault fault

    -- Each step goes on, and what it does was done but for what is pending; or it stops, or it broke off; or the output failed, in what was pending or in what the
    -- step outputs.
    abbrev pub ComesTo : ℕ → Step → Machine → Advanced → Type 0
    ComesTo size s m On = (events : List Event) × (next : Config) × (s ≡ Goes events next) × Holds new m next × HasDone old new owed left (steps_of events)
    ComesTo size s m Ended = (touched : ℕ) × (s ≡ Stops (end_of m.end) touched) × HasDone old new owed left []
    ComesTo size s m Broke = (BreaksFor old new size s m.fault × HasDone old new owed left []) ⊎ CommitBreaks s m.fault
    ComesTo size s m Failed = IsCut old new owed left [] ⊎ ((events : List Event) × (next : Config) × (s ≡ Goes events next) × IsCut old new owed left (steps_of events))

    -- From each configuration that the machine holds, after the instruction, of a run that is alone.
    pub record Comes (of : Config → Step) (m m' : Machine) (answer : Advanced) : Type 0 where
      pub size : WhereOn answer (m'.objects.size ≡ m.objects.size)
      pub by : (c : Config) → Holds old m c → IsAlone c.store.held → ComesTo m.objects.size (of c) m' answer

    -- What came of an instruction, whose own offset this is: one that isn't of databases, or one that is.
    pub data Does (i : Instr) (own : ℕ) (m m' : Machine) (answer : Advanced) : Type 0 where
      plainly : is_plain i ≡ true → Plainly (acts i own) m m' answer → Does i own m m' answer
      called : Comes (acts i own) m m' answer → Does i own m m' answer

    -- From each configuration that the machine holds, of a run that is alone, that is what came of its step.
    pub record Advances (m m' : Machine) (answer : Advanced) : Type 0 where
      pub size : WhereOn answer (m'.objects.size ≡ m.objects.size)
      pub by : (c : Config) → Holds old m c → IsAlone c.store.held → (s : Step) × Steps c s × ComesTo m.objects.size s m' answer
