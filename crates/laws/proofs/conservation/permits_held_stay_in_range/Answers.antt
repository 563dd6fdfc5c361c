use Rattle.history.proofs.Permits.{held_at_most}
use Rattle.laws.proofs.conservation.permits_held_stay_in_range.Goals as goal

pub returns : goal.returns
returns c = held_at_most
