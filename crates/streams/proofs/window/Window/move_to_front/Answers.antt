use Rattle.std.proofs.Common.{arith}
use Rattle.std.proofs.lemmas.Grind.{common_steps}
use Rattle.streams.proofs.window.Window.move_to_front.Goals as goal

pub returns : goal.returns
returns c = grind (arith, common_steps)
