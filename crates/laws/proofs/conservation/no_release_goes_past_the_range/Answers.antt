use Rattle.laws.proofs.Broken.{released_illegal, released_past}
use Rattle.laws.proofs.conservation.no_release_goes_past_the_range.Goals as goal

pub returns : goal.returns
returns c = record { past = released_past; illegal = released_illegal }
