use Rattle.std.proofs.Common.{rules}
use Rattle.history.proofs.fault.Fault.name.Goals as goal

pub returns-in-HoldsRead : goal.returns-in-HoldsRead
returns-in-HoldsRead c = search rules
