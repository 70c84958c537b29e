use Rattle.heap_ops_tests.proofs.layouts.are_told_again.Goals as goal

pub are_told-requires-then-twice-clause-so : goal.are_told-requires-then-twice-clause-so
are_told-requires-then-twice-clause-so c = c.clear.ensures _
