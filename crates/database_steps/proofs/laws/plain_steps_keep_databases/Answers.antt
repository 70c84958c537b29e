use Rattle.database_steps.proofs.Steps.{keeps_databases}
use Rattle.database_steps.proofs.laws.plain_steps_keep_databases.Goals as goal

pub returns : goal.returns
returns _ = λ c next events step. keeps_databases c next events step
