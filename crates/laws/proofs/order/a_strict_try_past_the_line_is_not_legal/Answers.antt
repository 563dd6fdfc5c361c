use Rattle.laws.proofs.OutOfOrder.{tried_illegal, tried_passes}
use Rattle.laws.proofs.order.a_strict_try_past_the_line_is_not_legal.Goals as goal

pub returns : goal.returns
returns c = record { passed = tried_passes; illegal = tried_illegal }
