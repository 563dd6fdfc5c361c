use Rattle.std.proofs.Common.{rules}
use Rattle.frame.proofs.machine.Core.count.Goals as goal

pub returns-in-Latch : goal.returns-in-Latch
returns-in-Latch g c = search rules
