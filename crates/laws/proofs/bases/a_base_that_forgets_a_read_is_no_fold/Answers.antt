use Rattle.laws.proofs.Forgetting.{gave_illegal, gave_legal}
use Rattle.laws.proofs.bases.a_base_that_forgets_a_read_is_no_fold.Goals as goal

pub returns : goal.returns
returns c = record { legal = gave_legal; illegal = gave_illegal }
