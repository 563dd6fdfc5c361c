use Rattle.laws.proofs.OutOfOrder.{gave_illegal}
use Rattle.laws.proofs.results.a_give_of_nothing_is_not_legal.Goals as goal

pub returns : goal.returns
returns c = gave_illegal
