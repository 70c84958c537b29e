use Rattle.avl_trees.proofs.Heights.{height_bound}
use Rattle.avl_trees.proofs.laws.heights_are_bounded.Goals as goal

pub returns : goal.returns
returns g c = height_bound
