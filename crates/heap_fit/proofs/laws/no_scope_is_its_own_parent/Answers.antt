use Rattle.heap_fit.proofs.RoundLaws.{no_own_parent}
use Rattle.heap_fit.proofs.laws.no_scope_is_its_own_parent.Goals as goal

pub returns : goal.returns
returns c = λ stored id out text parent values fit there is round. no_own_parent stored id out text parent values fit there is round
