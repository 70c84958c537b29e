use Rattle.table_nodes.proofs.remove.+remove.Given as goal

abbrev pub decreases-remove : goal.decreases-remove
decreases-remove g l = l.bound
