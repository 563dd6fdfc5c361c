use Rattle.history.proofs.Folding.{folds_nothing}
use Rattle.laws.proofs.OnBases.{folds_after_fold}
use Rattle.laws.proofs.bases.a_base_can_be_folded.Goals as goal

pub returns : goal.returns
returns c = record { nothing = folds_nothing; parts = folds_after_fold }
