use Rattle.ps_emitter.proofs.Putting.{seq}
use Rattle.ps_emitter.proofs.Steps.{one_is}
use Rattle.ps_emitter.proofs.emitter.Emitter.declare.Goals as goal

pub returns : goal.returns
returns c = seq (one_is c.set.ensures c.in_ok-put.ensures) c.in_ok-take_place.ensures
