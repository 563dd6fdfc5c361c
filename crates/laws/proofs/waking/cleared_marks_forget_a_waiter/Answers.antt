use Rattle.laws.proofs.Marking.{waiter_forgotten}
use Rattle.laws.proofs.waking.cleared_marks_forget_a_waiter.Goals as goal

pub returns : goal.returns
returns c = waiter_forgotten
