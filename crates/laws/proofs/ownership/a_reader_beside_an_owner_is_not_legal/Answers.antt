use Rattle.laws.proofs.Broken.{beside_illegal, beside_two}
use Rattle.laws.proofs.ownership.a_reader_beside_an_owner_is_not_legal.Goals as goal

pub returns : goal.returns
returns c = record { two = beside_two; illegal = beside_illegal }
