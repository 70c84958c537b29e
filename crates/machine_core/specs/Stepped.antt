-- What a step in code answers of the step of the definition.
use Rattle.std.specs.Prelude.{◌≡◌, ℕ, List, [], ◌∷◌}
use Rattle.joint_ops.specs.ps_outside.Outside.{Outside}
use Rattle.joint_ops.specs.obj_layout.Stored.{Space}
use Rattle.ps_stepping.specs.ps_heap.Ends.{End, Done, Trapped, OutOfTurns}
use Rattle.ps_stepping.specs.ps_heap.Events.{Event, Turn, outputs}
use Rattle.ps_stepping.specs.ps_meaning.Meaning.{some_out}
use Rattle.ps_stepping.specs.Config.{Config}
use Rattle.ps_stepping.specs.Machine.{Step, Goes, Stops, Stuck}
use Rattle.machine_core.specs.declared.machine.Machine.{Machine}
use Rattle.machine_core.specs.declared.stepped.Stepped.{Stepped}
use Rattle.machine_core.specs.declared.stepped.Stepped.TheVariants.{Quiet, Turns, Writes, Halts, Breaks, Damaged}
use Rattle.machine_core.specs.declared.run_end.RunEnd.{RunEnd}
use Rattle.machine_core.specs.declared.run_end.RunEnd.TheVariants as in_code
pub use Rattle.machine_core.specs.Items.{item_text, IsItem, text_of}
use Rattle.machine_core.specs.Holding.{Holds, IsSound}
use Rattle.machine_core.specs.Naming.{NamesObjects}
use Rattle.machine_core.specs.Full.{BreaksBy}
use Rattle.ps_stepping.specs.Plain.{PlainSteps}

abbrev pub end_of : RunEnd → End
end_of in_code.Done = Done
end_of (in_code.Trapped trap line) = Trapped trap line
end_of in_code.OutOfTurns = OutOfTurns

-- the machine with this end
abbrev pub ended : RunEnd → Machine → Machine
ended e m = record m { end = e }

-- The step is what was answered, with the write, the end or the fault that the machine names; the vault was seen so before it, and is seen so after it,
-- and the area had this size. Where the run goes on, the machine holds the next configuration.
abbrev pub Does : Outside Space → Outside Space → ℕ → Step → Stepped → Machine → Type 0
Does before after size s Quiet m = (events : List Event) × (next : Config) × (s ≡ Goes events next) × (outputs events ≡ []) × Holds after m next
Does before after size s Turns m = (counted : ℕ) × (next : Config) × (s ≡ Goes (Turn counted ∷ []) next) × Holds after m next
Does before after size s Writes m =
    (next : Config) × (s ≡ Goes (some_out (text_of m.objects m.writing) next.store.held.counted) next) × IsItem m.objects m.writing.item × Holds after m next
Does before after size s Halts m = (touched : ℕ) × (s ≡ Stops (end_of m.end) touched)
Does before after size s Breaks m = BreaksBy before after size s m.fault
Does before after size s Damaged m = s ≡ Stuck

-- what holds wherever the step didn't break off
abbrev pub UnlessBroken : Stepped → Type 0 → Type 0
UnlessBroken Quiet so = so
UnlessBroken Turns so = so
UnlessBroken Writes so = so
UnlessBroken Halts so = so
UnlessBroken Breaks so = Unit {0}
UnlessBroken Damaged so = so

module _ (before after : Outside Space) where
  -- From each configuration that the machine holds, the function's step is what was answered. Whatever it holds, its words name objects of the area
  -- where they did before, and the area keeps its size.
  pub record Takes (of : Config → Step) (old new : Machine) (answer : Stepped) : Type 0 where
    pub sound : IsSound new
    pub names : NamesObjects old → UnlessBroken answer (NamesObjects new)
    pub size : UnlessBroken answer (new.objects.size ≡ old.objects.size)
    pub does : (c : Config) → Holds before old c → Does before after old.objects.size (of c) answer new

  -- From each configuration that the machine holds, its step by the definition is what was answered.
  pub record TakesStep (old new : Machine) (answer : Stepped) : Type 0 where
    pub sound : IsSound new
    pub names : NamesObjects old → UnlessBroken answer (NamesObjects new)
    pub size : UnlessBroken answer (new.objects.size ≡ old.objects.size)
    pub does : (c : Config) → Holds before old c → (s : Step) × PlainSteps c s × Does before after old.objects.size s answer new
