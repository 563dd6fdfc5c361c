use Rattle.std.proofs.Common.{rules}
use Rattle.counting.proofs.latch.LatchHooksHooks.drain.Goals as goal

pub returns-clause-drained : goal.returns-clause-drained
returns-clause-drained c = search rules
