use Rattle.laws.proofs.Forgetting.{passes_illegal, passes_legal}
use Rattle.laws.proofs.bases.a_base_that_forgets_the_count_is_no_fold.Goals as goal

pub returns : goal.returns
returns c = record { legal = passes_legal; illegal = passes_illegal }
