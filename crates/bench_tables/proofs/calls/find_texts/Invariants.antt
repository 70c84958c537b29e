use Rattle.bench_tables.proofs.calls.find_texts.Given as goal

abbrev pub ghosts-count_strings : goal.ghosts-count_strings
ghosts-count_strings a = record { name = a.blank.name; parts = a.blank.parts }
