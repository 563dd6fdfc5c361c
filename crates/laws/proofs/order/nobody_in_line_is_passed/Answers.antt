use Rattle.history.proofs.Passing.{in_order}
use Rattle.laws.proofs.order.nobody_in_line_is_passed.Goals as goal

pub returns : goal.returns
returns c = in_order
