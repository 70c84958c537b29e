use Rattle.heap_fit.proofs.GoodRuns.{run_good}
use Rattle.heap_fit.proofs.laws.commits_have_fit_databases.Goals as goal

pub returns : goal.returns
returns c = run_good
