use Rattle.history.proofs.Marking.{opening_right, results_stand, stand_after}
use Rattle.laws.proofs.waking.only_who_waits_is_marked.Goals as goal

pub returns : goal.returns
returns c = record { opening = λ k. (opening_right k).stand; step = stand_after; steps = results_stand }
