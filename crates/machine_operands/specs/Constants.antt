-- What the text constant of a number is to a machine.
use Rattle.std.specs.Prelude.{◌≡◌, ℕ, List, Option, Some, Result, Ok, Err}
use Rattle.ps_base.specs.CodeUnit.{text}
use Rattle.machine_core.specs.ps_outside.Outside.{Outside}
use Rattle.machine_core.specs.obj_layout.Stored.{Space}
use Rattle.machine_core.specs.obj_layout.declared.reference.Reference.{Reference}
use Rattle.machine_core.specs.swizzle.Touch.{Keeps}
use Rattle.machine_core.specs.ps_heap.Values.{Value, Text}
use Rattle.machine_core.specs.ps_stepping.Config.{Config, constants_in, constant_at}
use Rattle.machine_core.specs.ps_stepping.Steps.{Step, with_text}
use Rattle.machine_core.specs.joint_ops.World.{DenotesIn, Carries}
use Rattle.machine_core.specs.declared.machine.Machine.{Machine}
use Rattle.machine_core.specs.declared.stepped.Stepped.{Stepped}
use Rattle.machine_core.specs.Failing.{FailsAsReading}
use Rattle.machine_core.specs.Holding.{HeldBy, IsSound}
use Rattle.machine_core.specs.Naming.{NamesObjects}
use Rattle.machine_core.specs.Stepped.{Does, UnlessBroken}

-- what holds unless a part of an instruction broke off
abbrev pub UnlessBrokenOff : {T : Type 0} → Result T Stepped → Type 0 → Type 0
UnlessBrokenOff (Ok given) so = so
UnlessBrokenOff (Err answer) so = UnlessBroken answer so

-- where it broke off, it failed as a reading does
abbrev pub FailsBrokenOff : {T : Type 0} → Outside Space → Outside Space → Result T Stepped → Machine → Type 0
FailsBrokenOff before after (Ok given) m = Unit {0}
FailsBrokenOff before after (Err answer) m = FailsAsReading before after answer m

-- Whatever the machine holds, it stays sound; unless a part of an instruction broke off its words name objects of the area, and that has its size.
pub record EndsReading {T : Type 0} (old new : Machine) (answer : Result T Stepped) : Type 0 where
  pub sound : IsSound new
  pub names : UnlessBrokenOff answer (NamesObjects new)
  pub size : UnlessBrokenOff answer (new.objects.size ≡ old.objects.size)

-- The machine has other objects, of which those that it had stay as they were.
pub record Refetched (old new : Machine) : Type 0 where
  pub is : new ≡ record old { objects = new.objects }
  pub keeps : Keeps old.objects new.objects

module _ (before after : Outside Space) where
  -- The machine still stands for the configuration, and what denoted a value denotes it still.
  pub record StillHolds (names : List Reference) (c : Config) (old new : Machine) : Type 0 where
    pub held : HeldBy after names new c
    pub carries : Carries old.objects new.objects before after names names

  -- What follows gets the bytes of the text constant, which an object of the area denotes; or with what was answered the instruction is at its end,
  -- whatever follows.
  abbrev pub GivesConstant : ℕ → List Reference → Config → Result ℕ Stepped → Machine → Machine → Type 0
  GivesConstant k names c (Ok at) old new =
      (bytes : List ℕ) × (constant_at (constants_in c.unit) k ≡ Some (text bytes)) × StillHolds names c old new
      × DenotesIn new.objects after names (Some at) (Text bytes)
  GivesConstant k names c (Err answer) old new = (next : List ℕ → Step) → Does before after old.objects.size (with_text k c next) answer new

  pub record ReadsConstant (k : ℕ) (old new : Machine) (answer : Result ℕ Stepped) : Type 0 where
    pub gives : (names : List Reference) (c : Config) → HeldBy before names old c → GivesConstant k names c answer old new
