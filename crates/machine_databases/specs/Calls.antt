-- What a call on databases does where no other session answers what it asks, and each open database is one of the directory.
use Rattle.std.specs.Prelude.{◌≡◌, ◌⊎◌, ℕ, ◌+◌, ◌*◌, ◌<◌, ◌≤◌, List}
use Rattle.machine_core.specs.ps_outside.Outside.{Outside}
use Rattle.machine_core.specs.obj_layout.Stored.{Space}
use Rattle.machine_core.specs.swizzle.declared.fault.SwizzleFault.{SwizzleFault}
use Rattle.machine_core.specs.swizzle.declared.fault.SwizzleFault.TheVariants.{AreaFull}
use Rattle.machine_core.specs.ps_heap.Events.{Event}
use Rattle.machine_core.specs.ps_stepping.Config.{Config}
use Rattle.machine_core.specs.ps_stepping.Steps.{Step, Goes, Stuck}
use Rattle.machine_core.specs.declared.machine.Machine.{Machine}
use Rattle.machine_core.specs.declared.stepped.Stepped.{Stepped}
use Rattle.machine_core.specs.declared.stepped.Stepped.TheVariants.{Quiet, Turns, Writes, Halts, Breaks, Damaged}
use Rattle.machine_core.specs.Full.{BreaksBy}
use Rattle.machine_core.specs.Holding.{Holds, IsSound}
use Rattle.machine_core.specs.Naming.{NamesObjects}
use Rattle.machine_core.specs.Stepped.{UnlessBroken}
use Rattle.database_steps.specs.Databases.{IsAlone}

-- The step goes on, and as many bytes as so many words have are counted by then.
pub record Counts (s : Step) (wanted : ℕ) : Type 0 where
  pub events : List Event
  pub next : Config
  pub step_is : s ≡ Goes events next
  pub counted : 8 * wanted ≤ next.store.held.counted

-- From the top of an area of this size on there was no room for an object that the call makes, and its words are counted.
abbrev pub LacksRoom : ℕ → Step → SwizzleFault → Type 0
LacksRoom size s fault = (top : ℕ) × (wanted : ℕ) × (fault ≡ AreaFull top wanted size) × (size < top + wanted) × Counts s wanted

module _ (before after : Outside Space) where
  -- The step is what was answered. Where the run goes on, the machine holds the next configuration.
  abbrev pub DoesCall : ℕ → Step → Stepped → Machine → Type 0
  DoesCall size s Quiet m = (events : List Event) × (next : Config) × (s ≡ Goes events next) × Holds after m next
  DoesCall size s Breaks m = BreaksBy before after size s m.fault ⊎ LacksRoom size s m.fault
  DoesCall size s Damaged m = s ≡ Stuck
  DoesCall size s Turns m = ⊥
  DoesCall size s Writes m = ⊥
  DoesCall size s Halts m = ⊥

  -- From each configuration that the machine holds, of a run that is alone, the call is what was answered. Whatever it holds, its words name objects of the
  -- area, and the area keeps its size.
  pub record TakesCall (of : Config → Step) (old new : Machine) (answer : Stepped) : Type 0 where
    pub sound : IsSound new
    pub names : UnlessBroken answer (NamesObjects new)
    pub size : UnlessBroken answer (new.objects.size ≡ old.objects.size)
    pub does : (c : Config) → Holds before old c → IsAlone c.store.held → DoesCall old.objects.size (of c) answer new
