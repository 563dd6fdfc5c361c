use Rattle.std.proofs.Common.{rules}
use Rattle.history.proofs.fault.Fault.number.Goals as goal

pub returns-in-WrongMode : goal.returns-in-WrongMode
returns-in-WrongMode c = search rules
