use Rattle.laws.proofs.Broken.{drained_illegal, drained_past}
use Rattle.laws.proofs.conservation.no_drain_goes_past_the_range.Goals as goal

pub returns : goal.returns
returns c = record { past = drained_past; illegal = drained_illegal }
