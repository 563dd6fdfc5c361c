use Rattle.example_guards.proofs.fifo.play.Given as goal

abbrev pub ghosts-deliver-K-Named : goal.ghosts-deliver-K-Named
ghosts-deliver-K-Named g a = record { table = a.entries }

abbrev pub ghosts-deliver-K-Ledger : goal.ghosts-deliver-K-Ledger
ghosts-deliver-K-Ledger g a = record { name = a.blank.name; parts = a.blank.parts }
