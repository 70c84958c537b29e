use Rattle.heap_fit.proofs.MoreInScope.{body-more}
use Rattle.heap_fit.proofs.laws.bodies_stay_fit.Goals as goal

pub returns : goal.returns
returns c = λ levels others of more is. body-more others more is
