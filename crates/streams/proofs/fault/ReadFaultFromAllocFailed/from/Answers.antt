use Rattle.std.proofs.Common.{rules}
use Rattle.streams.proofs.fault.ReadFaultFromAllocFailed.from.Goals as goal

pub returns : goal.returns
returns g c = search rules
