use Rattle.laws.proofs.Forgetting.{hold_illegal, hold_legal}
use Rattle.laws.proofs.bases.a_base_that_forgets_a_hold_is_no_fold.Goals as goal

pub returns : goal.returns
returns c = record { legal = hold_legal; illegal = hold_illegal }
