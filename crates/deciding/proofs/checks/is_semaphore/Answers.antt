use Rattle.std.proofs.Common.{rules}
use Rattle.deciding.proofs.checks.is_semaphore.Goals as goal

pub returns-in-Semaphore : goal.returns-in-Semaphore
returns-in-Semaphore c = search rules
