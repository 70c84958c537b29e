use Rattle.volume_meaning.proofs.Volumes.{stands-held}
use Rattle.volume_meaning.proofs.laws.what_is_held_decides.Goals as goal

pub returns : goal.returns
returns c = stands-held
