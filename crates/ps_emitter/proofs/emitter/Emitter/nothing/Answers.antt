use Rattle.ps_emitter.proofs.Steps.{nothing}
use Rattle.ps_emitter.proofs.emitter.Emitter.nothing.Goals as goal

pub returns : goal.returns
returns c = nothing _
