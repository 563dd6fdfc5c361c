use Rattle.std.proofs.Common.{arith}
use Rattle.std.proofs.lemmas.Grind.{common_steps}
use Rattle.streams.proofs.at_once.behind_three.Goals as goal

pub returns : goal.returns
returns c = grind (arith, common_steps)

pub returns-in_err-behind_first : goal.returns-in_err-behind_first
returns-in_err-behind_first c = grind (arith, common_steps)
