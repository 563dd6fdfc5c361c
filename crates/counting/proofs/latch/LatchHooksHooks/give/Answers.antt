use Rattle.std.proofs.Common.{rules}
use Rattle.counting.proofs.latch.LatchHooksHooks.give.Goals as goal

pub returns-then-opens-clause-answer : goal.returns-then-opens-clause-answer
returns-then-opens-clause-answer c = search rules

pub returns-then-opens-clause-ok : goal.returns-then-opens-clause-ok
returns-then-opens-clause-ok c = search rules

pub returns-else-opens-clause-ok : goal.returns-else-opens-clause-ok
returns-else-opens-clause-ok c = search rules
