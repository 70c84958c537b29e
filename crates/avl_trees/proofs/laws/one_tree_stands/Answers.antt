use Rattle.avl_trees.specs.Standing.{seen_by}
use Rattle.avl_trees.proofs.OneTree.{stands_one}
use Rattle.avl_trees.proofs.laws.one_tree_stands.Goals as goal

pub returns : goal.returns
returns g c = λ rows. stands_one (seen_by rows) (λ name a b p q. cc)
