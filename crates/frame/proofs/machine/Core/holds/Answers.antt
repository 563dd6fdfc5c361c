use Rattle.std.proofs.Common.{rules}
use Rattle.frame.proofs.machine.Core.holds.Goals as goal

pub returns : goal.returns
returns g c = search rules
