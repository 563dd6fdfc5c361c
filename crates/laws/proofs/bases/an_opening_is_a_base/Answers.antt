use Rattle.history.proofs.OpeningBase.{based_opening, opening_good}
use Rattle.laws.proofs.bases.an_opening_is_a_base.Goals as goal

pub returns : goal.returns
returns c = record { start = based_opening; good = opening_good }
