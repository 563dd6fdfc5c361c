use Rattle.counting.proofs.semaphore.SemaphoreHooksHooks.object.Goals as goal
use Rattle.std.proofs.Common.{rules}

pub returns : goal.returns
returns c = search rules
