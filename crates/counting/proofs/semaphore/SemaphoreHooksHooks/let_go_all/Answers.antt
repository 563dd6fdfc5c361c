use Rattle.std.proofs.Common.{rules}
use Rattle.counting.proofs.semaphore.SemaphoreHooksHooks.let_go_all.Goals as goal

pub returns-clause-answer : goal.returns-clause-answer
returns-clause-answer c = search rules
