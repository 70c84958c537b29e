use Rattle.table_nodes.proofs.remove.+take_least.Given as goal

abbrev pub decreases-take_least : goal.decreases-take_least
decreases-take_least g l = l.bound
