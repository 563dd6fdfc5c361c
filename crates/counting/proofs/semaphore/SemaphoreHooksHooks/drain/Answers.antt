use Rattle.std.proofs.Common.{rules}
use Rattle.counting.proofs.semaphore.SemaphoreHooksHooks.drain.Goals as goal

pub returns-clause-drained : goal.returns-clause-drained
returns-clause-drained c = search rules

pub returns-then-self-lt0-clause-drained : goal.returns-then-self-lt0-clause-drained
returns-then-self-lt0-clause-drained c = search rules
