use Rattle.ps_causes.specs.Source.{mistyped}
use Rattle.ps_command.proofs.compile.checked.Goals as goal

pub returns-in-Err-clause-refused : goal.returns-in-Err-clause-refused
returns-in-Err-clause-refused c told is = mistyped (c.in-Err.ensures.fault told is)
