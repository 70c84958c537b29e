use Rattle.avl_trees.proofs.Balanced.{insert_grown, remove_shrunk}
use Rattle.avl_trees.proofs.laws.trees_stay_balanced.Goals as goal

pub returns-clause-entered : goal.returns-clause-entered
returns-clause-entered g c = insert_grown

pub returns-clause-removed : goal.returns-clause-removed
returns-clause-removed g c = remove_shrunk
