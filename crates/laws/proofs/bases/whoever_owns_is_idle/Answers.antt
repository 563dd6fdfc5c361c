use Rattle.history.proofs.IdleOwners.{owner_idle}
use Rattle.laws.proofs.bases.whoever_owns_is_idle.Goals as goal

pub returns : goal.returns
returns c = owner_idle
