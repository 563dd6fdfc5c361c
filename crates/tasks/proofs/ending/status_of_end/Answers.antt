use Rattle.std.proofs.Common.{rules}
use Rattle.tasks.proofs.ending.status_of_end.Goals as goal

pub returns-in-Err : goal.returns-in-Err
returns-in-Err g c = search rules
