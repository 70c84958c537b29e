use Rattle.avl_trees.specs.Rising.{below}
use Rattle.avl_trees.proofs.Ordered.{enter_rising, without_rising}
use Rattle.avl_trees.proofs.laws.keys_stay_in_order.Goals as goal

pub returns-clause-entered : goal.returns-clause-entered
returns-clause-entered g c = λ cmp. enter_rising (below cmp)

pub returns-clause-removed : goal.returns-clause-removed
returns-clause-removed g c = λ cmp. without_rising (below cmp)
