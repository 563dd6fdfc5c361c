use Rattle.history.specs.Start.{opening}
use Rattle.history.proofs.Passing.{fair_order}
use Rattle.laws.proofs.order.fair_mode_lets_nobody_pass.Goals as goal

pub returns : goal.returns
returns c = λ k. fair_order (opening k)
