use Rattle.laws.proofs.OutOfOrder.{got_illegal, got_passes}
use Rattle.laws.proofs.order.a_fair_take_past_the_line_is_not_legal.Goals as goal

pub returns : goal.returns
returns c = record { passed = got_passes; illegal = got_illegal }
