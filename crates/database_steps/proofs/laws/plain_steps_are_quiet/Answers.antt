use Rattle.database_steps.proofs.Steps.{is_quiet}
use Rattle.database_steps.proofs.laws.plain_steps_are_quiet.Goals as goal

pub returns : goal.returns
returns _ = λ c next events step. is_quiet c next events step
