use Rattle.volume_meaning.proofs.Spelled.{space-held}
use Rattle.volume_meaning.proofs.laws.what_is_spelled_is_the_space.Goals as goal

pub returns : goal.returns
returns c = space-held
