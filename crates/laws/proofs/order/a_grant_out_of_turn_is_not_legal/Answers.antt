use Rattle.laws.proofs.OutOfOrder.{granted_illegal, granted_passes}
use Rattle.laws.proofs.order.a_grant_out_of_turn_is_not_legal.Goals as goal

pub returns : goal.returns
returns c = record { passed = granted_passes; illegal = granted_illegal }
