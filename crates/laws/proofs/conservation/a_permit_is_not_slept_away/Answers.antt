use Rattle.laws.proofs.Broken.{slept_away_illegal, slept_away_lost}
use Rattle.laws.proofs.conservation.a_permit_is_not_slept_away.Goals as goal

pub returns : goal.returns
returns c = record { lost = slept_away_lost; illegal = slept_away_illegal }
