use Rattle.table_tests.proofs.scene.string_value.Given as goal

abbrev pub ghosts-find_string : goal.ghosts-find_string
ghosts-find_string a = record { name = a.blank.name; parts = a.blank.parts }
