use Rattle.database_steps.proofs.Openings.{none_next}
use Rattle.database_steps.proofs.laws.no_next_database_is_open.Goals as goal

pub returns : goal.returns
returns _ = λ h named is. none_next h named is
