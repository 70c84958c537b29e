use Rattle.space_meaning.proofs.SameHeaps.{stands-same}
use Rattle.space_meaning.proofs.laws.ids_of_a_space_dont_matter.Goals as goal

pub returns : goal.returns
returns c = stands-same
