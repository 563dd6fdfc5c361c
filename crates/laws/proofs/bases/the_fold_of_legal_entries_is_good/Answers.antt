use Rattle.history.proofs.GoodFolds.{fold_good, fold_modest}
use Rattle.history.proofs.OpeningBase.{opening_modest}
use Rattle.laws.proofs.bases.the_fold_of_legal_entries_is_good.Goals as goal

pub returns : goal.returns
returns c = record { good = fold_good; modest = fold_modest; opening = opening_modest }
