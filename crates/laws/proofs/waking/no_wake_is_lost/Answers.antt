use Rattle.laws.proofs.Woken.{woken}
use Rattle.laws.proofs.waking.no_wake_is_lost.Goals as goal

pub returns : goal.returns
returns c = woken
