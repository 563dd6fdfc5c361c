use Rattle.std.proofs.Common.{rules}
use Rattle.counting.proofs.semaphore.SemaphoreHooksHooks.restore.Goals as goal

pub returns : goal.returns
returns c = search rules
