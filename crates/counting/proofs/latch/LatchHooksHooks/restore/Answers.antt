use Rattle.std.proofs.Common.{rules}
use Rattle.counting.proofs.latch.LatchHooksHooks.restore.Goals as goal

pub returns : goal.returns
returns c = search rules
