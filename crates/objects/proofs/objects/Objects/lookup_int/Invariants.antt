use Rattle.objects.proofs.objects.Objects.lookup_int.Given as goal

abbrev pub ghosts-find_int : goal.ghosts-find_int
ghosts-find_int g a = record { name = a.blank.name; parts = a.blank.parts }
