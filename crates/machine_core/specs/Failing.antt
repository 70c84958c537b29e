-- Why a step broke off, whatever is known of the vault.
use Rattle.joint_ops.specs.ps_outside.Outside.{Outside}
use Rattle.joint_ops.specs.obj_layout.Stored.{Space}
use Rattle.joint_ops.specs.swizzle.Reading.{FailsReading}
use Rattle.machine_core.specs.declared.machine.Machine.{Machine}
use Rattle.machine_core.specs.declared.stepped.Stepped.{Stepped}
use Rattle.machine_core.specs.declared.stepped.Stepped.TheVariants.{Quiet, Turns, Writes, Halts, Breaks, Damaged}

-- A step that broke off failed as a reading does: the machine's fault names the device only where that failed, and never the output, nor that the vault
-- is full.
abbrev pub FailsAsReading : Outside Space → Outside Space → Stepped → Machine → Type 0
FailsAsReading before after Quiet m = Unit {0}
FailsAsReading before after Turns m = Unit {0}
FailsAsReading before after Writes m = Unit {0}
FailsAsReading before after Halts m = Unit {0}
FailsAsReading before after Breaks m = FailsReading before after m.fault
FailsAsReading before after Damaged m = Unit {0}
