use Rattle.table_nodes.proofs.enter.+enter.Given as goal

abbrev pub decreases-enter : goal.decreases-enter
decreases-enter g l = l.bound
