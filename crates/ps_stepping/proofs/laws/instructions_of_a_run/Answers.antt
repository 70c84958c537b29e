use Rattle.ps_stepping.proofs.Paths.{runs_by, each_may}
use Rattle.ps_stepping.proofs.laws.instructions_of_a_run.Goals as goal

pub returns-clause-is_run : goal.returns-clause-is_run
returns-clause-is_run _ = λ may total c so_far run. runs_by may total c so_far run

pub returns-clause-each : goal.returns-clause-each
returns-clause-each _ = λ may total c last before i run way here. each_may may total c last before i run way here
