use Rattle.volume_meaning.proofs.Volumes.{volume-found}
use Rattle.volume_meaning.proofs.laws.what_stands_is_a_volume.Goals as goal

pub returns : goal.returns
returns c = volume-found
