use Rattle.table_tests.proofs.trees.+height_of.Given as goal

abbrev pub decreases-height_of : goal.decreases-height_of
decreases-height_of l = l.most
