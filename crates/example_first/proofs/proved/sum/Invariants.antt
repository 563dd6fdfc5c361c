use Rattle.example_first.proofs.proved.sum.Given as goal

abbrev pub ghosts-both : goal.ghosts-both
ghosts-both g a = record { name = a.blank.name; parts = a.blank.parts }
