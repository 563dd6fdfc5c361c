use Rattle.std.proofs.Common.{rules}
use Rattle.counting.proofs.latch.LatchHooks.open.Goals as goal

pub returns-clause-object : goal.returns-clause-object
returns-clause-object c = search rules
