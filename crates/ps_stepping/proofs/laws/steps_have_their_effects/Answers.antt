use Rattle.ps_stepping.proofs.Effects.{has_effect}
use Rattle.ps_stepping.proofs.laws.steps_have_their_effects.Goals as goal

pub returns : goal.returns
returns _ = λ i c next events is. has_effect i c next events is
