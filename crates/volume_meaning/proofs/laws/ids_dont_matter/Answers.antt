use Rattle.volume_meaning.proofs.Images.{stands-same}
use Rattle.volume_meaning.proofs.laws.ids_dont_matter.Goals as goal

pub returns : goal.returns
returns c = stands-same
