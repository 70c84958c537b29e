use Rattle.table_tests.proofs.scene.number_value.Given as goal

abbrev pub ghosts-find_number : goal.ghosts-find_number
ghosts-find_number a = record { name = a.blank.name; parts = a.blank.parts }
