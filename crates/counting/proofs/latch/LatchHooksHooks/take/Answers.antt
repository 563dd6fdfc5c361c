use Rattle.std.proofs.Common.{rules}
use Rattle.counting.proofs.latch.LatchHooksHooks.take.Goals as goal

pub returns-clause-taken : goal.returns-clause-taken
returns-clause-taken c = search rules
