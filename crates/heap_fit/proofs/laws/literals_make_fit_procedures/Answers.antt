use Rattle.heap_fit.proofs.MoreInScope.{literal-fit}
use Rattle.heap_fit.proofs.laws.literals_make_fit_procedures.Goals as goal

pub returns : goal.returns
returns c = literal-fit
