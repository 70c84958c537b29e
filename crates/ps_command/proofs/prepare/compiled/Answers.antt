use Rattle.ps_command.proofs.Programs.{runnable}
use Rattle.ps_command.proofs.prepare.compiled.Goals as goal

pub returns-in-Ok-clause-runnable : goal.returns-in-Ok-clause-runnable
returns-in-Ok-clause-runnable c =
    let is = c.in-Ok.ensures.compiled in
    (is.0, runnable c.args.text.now c.in-Ok.unit is.0 is.1 is.2 is.3, is.1)
