use Rattle.history.proofs.Permits.{free_at_most, free_fits}
use Rattle.laws.proofs.conservation.free_permits_stay_in_range.Goals as goal

pub returns : goal.returns
returns c = record { at_most = free_at_most; fits = free_fits }
