use Rattle.avl_trees.specs.Rising.{below}
use Rattle.avl_trees.proofs.Ordered.{lookup_items, next_items, insert_items, remove_items}
use Rattle.avl_trees.proofs.laws.trees_are_finite_maps.Goals as goal

pub returns-clause-found : goal.returns-clause-found
returns-clause-found g c = λ cmp. lookup_items (below cmp)

pub returns-clause-above : goal.returns-clause-above
returns-clause-above g c = λ cmp. next_items (below cmp)

pub returns-clause-entered : goal.returns-clause-entered
returns-clause-entered g c = λ cmp. insert_items (below cmp)

pub returns-clause-removed : goal.returns-clause-removed
returns-clause-removed g c = λ cmp. remove_items (below cmp)
