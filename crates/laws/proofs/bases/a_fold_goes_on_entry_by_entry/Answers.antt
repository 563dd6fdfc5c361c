use Rattle.history.proofs.NextBases.{fold_next, next_is}
use Rattle.laws.proofs.bases.a_fold_goes_on_entry_by_entry.Goals as goal

pub returns : goal.returns
returns c = record { one = next_is; more = fold_next }
