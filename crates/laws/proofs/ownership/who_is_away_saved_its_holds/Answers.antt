use Rattle.history.proofs.OneOwner.{saved_away}
use Rattle.laws.proofs.ownership.who_is_away_saved_its_holds.Goals as goal

pub returns : goal.returns
returns c = saved_away
