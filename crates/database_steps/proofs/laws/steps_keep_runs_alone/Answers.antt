use Rattle.database_steps.proofs.Steps.{step_alone}
use Rattle.database_steps.proofs.laws.steps_keep_runs_alone.Goals as goal

pub returns : goal.returns
returns _ = λ c next events step alone. step_alone c next events step alone
