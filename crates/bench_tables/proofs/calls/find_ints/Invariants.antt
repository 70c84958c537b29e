use Rattle.bench_tables.proofs.calls.find_ints.Given as goal

abbrev pub ghosts-count_ints : goal.ghosts-count_ints
ghosts-count_ints a = record { name = a.blank.name; parts = a.blank.parts }
