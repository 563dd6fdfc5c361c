use Rattle.std.proofs.Common.{rules}
use Rattle.streams.proofs.fault.ReadFaultFromTextFault.from.Goals as goal

pub returns : goal.returns
returns c = search rules
