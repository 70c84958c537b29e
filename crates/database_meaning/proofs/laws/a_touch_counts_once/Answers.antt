use Rattle.database_meaning.proofs.StepLaws.{touched-once}
use Rattle.database_meaning.proofs.laws.a_touch_counts_once.Goals as goal

pub returns : goal.returns
returns c = λ h id. touched-once h id
