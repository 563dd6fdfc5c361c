use Rattle.std.proofs.Common.{rules}
use Rattle.frame.proofs.machine.Core.history.Goals as goal

pub returns-clause-entries : goal.returns-clause-entries
returns-clause-entries g c = search rules
