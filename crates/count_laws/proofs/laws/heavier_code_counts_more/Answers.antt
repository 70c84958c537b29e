use Rattle.count_laws.proofs.Clauses.{run_like}
use Rattle.count_laws.proofs.laws.heavier_code_counts_more.Goals as goal

pub returns : goal.returns
returns c = λ light heavy given program weighs. run_like light heavy given program weighs
