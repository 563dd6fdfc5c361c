use Rattle.history.proofs.Marking.{opening_told, results_told, told_after}
use Rattle.laws.proofs.Marking.{told_after_fold}
use Rattle.laws.proofs.waking.whoever_could_go_was_told.Goals as goal

pub returns : goal.returns
returns c = record { opening = opening_told; step = told_after; steps = results_told; fold = told_after_fold }
