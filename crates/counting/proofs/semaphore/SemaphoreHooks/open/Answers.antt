use Rattle.std.proofs.Common.{rules}
use Rattle.counting.proofs.semaphore.SemaphoreHooks.open.Goals as goal

pub returns-clause-opened : goal.returns-clause-opened
returns-clause-opened c = search rules
