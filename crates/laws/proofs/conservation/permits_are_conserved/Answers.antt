use Rattle.history.proofs.Permits.{conserved}
use Rattle.laws.proofs.conservation.permits_are_conserved.Goals as goal

pub returns : goal.returns
returns c = conserved
