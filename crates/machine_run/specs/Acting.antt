-- What the instruction at an offset does to the machine.
use Rattle.std.specs.Prelude.{ℕ}
use Rattle.ps_base.specs.declared.instr.Instr.{Instr}
use Rattle.machine_core.specs.ps_outside.Outside.{Outside}
use Rattle.machine_core.specs.obj_layout.Stored.{Space}
use Rattle.machine_core.specs.swizzle.Reading.{LeavesOutside}
use Rattle.machine_core.specs.ps_stepping.Plain.{acts_plainly}
use Rattle.machine_core.specs.declared.machine.Machine.{Machine}
use Rattle.machine_core.specs.declared.stepped.Stepped.{Stepped}
use Rattle.machine_core.specs.Stepped.{Takes}
use Rattle.machine_core.specs.Failing.{FailsAsReading}

-- The machine does what the instruction says whose own offset this is.
pub record ActsAs (before after : Outside Space) (i : Instr) (own : ℕ) (old new : Machine) (answer : Stepped) : Type 0 where
  pub takes : Takes before after (acts_plainly i own) old new answer
  pub fails : FailsAsReading before after answer new
  pub leaves : LeavesOutside before after
