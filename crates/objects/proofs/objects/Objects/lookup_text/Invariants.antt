use Rattle.objects.proofs.objects.Objects.lookup_text.Given as goal

abbrev pub ghosts-find_text : goal.ghosts-find_text
ghosts-find_text g a = record { name = a.blank.name; parts = a.blank.parts }
