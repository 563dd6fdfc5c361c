use Rattle.example_guards.proofs.receipts.play.Given as goal

abbrev pub ghosts-find : goal.ghosts-find
ghosts-find g a = record { table = a.entries }
