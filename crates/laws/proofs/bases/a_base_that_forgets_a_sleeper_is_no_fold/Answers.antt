use Rattle.laws.proofs.Forgetting.{moved_illegal, moved_legal}
use Rattle.laws.proofs.bases.a_base_that_forgets_a_sleeper_is_no_fold.Goals as goal

pub returns : goal.returns
returns c = record { legal = moved_legal; illegal = moved_illegal }
