use Rattle.laws.proofs.Forgetting.{took_illegal, took_legal}
use Rattle.laws.proofs.bases.a_base_that_forgets_a_permit_is_no_fold.Goals as goal

pub returns : goal.returns
returns c = record { legal = took_legal; illegal = took_illegal }
