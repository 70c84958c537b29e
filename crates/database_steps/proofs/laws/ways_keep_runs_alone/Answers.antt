use Rattle.database_steps.proofs.Steps.{way_alone}
use Rattle.database_steps.proofs.laws.ways_keep_runs_alone.Goals as goal

pub returns : goal.returns
returns _ = λ c last events way alone. way_alone c last events way alone
