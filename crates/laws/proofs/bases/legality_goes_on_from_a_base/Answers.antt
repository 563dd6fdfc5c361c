use Rattle.history.proofs.Folding.{legal_goes_on}
use Rattle.laws.proofs.bases.legality_goes_on_from_a_base.Goals as goal

pub returns : goal.returns
returns c = legal_goes_on
