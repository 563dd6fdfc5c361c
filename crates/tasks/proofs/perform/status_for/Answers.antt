use Rattle.std.proofs.Common.{rules}
use Rattle.tasks.proofs.perform.status_for.Goals as goal

pub returns-in-NotLegal : goal.returns-in-NotLegal
returns-in-NotLegal c = search rules
