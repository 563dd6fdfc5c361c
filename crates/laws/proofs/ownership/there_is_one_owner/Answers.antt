use Rattle.history.proofs.OneOwner.{owned}
use Rattle.laws.proofs.ownership.there_is_one_owner.Goals as goal

pub returns : goal.returns
returns c = owned
