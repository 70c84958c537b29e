use Rattle.ps_running_laws.proofs.OfProgram.{program_runs}
use Rattle.ps_running_laws.proofs.laws.typed_program_runs.Goals as goal

pub returns : goal.returns
returns c = program_runs
