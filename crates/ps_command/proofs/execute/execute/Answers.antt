use Rattle.std.proofs.Common.{refl}
use Rattle.ps_causes.specs.Steps as steps
use Rattle.ps_command.proofs.execute.execute.Goals as goal

pub returns-in-Ok-attached : goal.returns-in-Ok-attached
returns-in-Ok-attached g c = record { why = λ program r. steps.ran (c.run_attached.ensures.ran c.args.host program c.in-Ok-attached.ensures.ok r) }

pub returns-in_default : goal.returns-in_default
returns-in_default g c = record { why = λ program r. steps.no_memory refl }

pub returns-in_default-machine : goal.returns-in_default-machine
returns-in_default-machine g c = record { why = λ program r. steps.no_memory refl }

pub returns-in_default-with_capacity : goal.returns-in_default-with_capacity
returns-in_default-with_capacity g c = record { why = λ program r. steps.no_memory refl }

pub returns-in-Err : goal.returns-in-Err
returns-in-Err g c = record { why = λ program r. steps.no_volume c.in-Err.ensures.err }
