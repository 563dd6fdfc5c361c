use Rattle.laws.proofs.Broken.{two_owners_illegal, two_owners_two}
use Rattle.laws.proofs.ownership.a_second_owner_is_not_legal.Goals as goal

pub returns : goal.returns
returns c = record { two = two_owners_two; illegal = two_owners_illegal }
