use Rattle.std.proofs.Common.{rules}
use Rattle.tasks.proofs.fault.FaultFromStreamFault.from.Goals as goal

pub returns : goal.returns
returns c = search rules
