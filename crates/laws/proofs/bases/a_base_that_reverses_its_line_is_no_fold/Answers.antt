use Rattle.laws.proofs.Forgetting.{granted_illegal, granted_legal}
use Rattle.laws.proofs.bases.a_base_that_reverses_its_line_is_no_fold.Goals as goal

pub returns : goal.returns
returns c = record { legal = granted_legal; illegal = granted_illegal }
