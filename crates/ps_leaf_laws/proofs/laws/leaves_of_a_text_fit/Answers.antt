use Rattle.ps_leaf_laws.proofs.LeavesRead.{leaves_fit}
use Rattle.ps_leaf_laws.proofs.laws.leaves_of_a_text_fit.Goals as goal

pub returns : goal.returns
returns c = leaves_fit
