use Rattle.volume_meaning.proofs.Used.{space-of_held}
use Rattle.volume_meaning.proofs.laws.a_space_is_used.Goals as goal

pub returns : goal.returns
returns c = space-of_held
