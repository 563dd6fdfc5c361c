use Rattle.std.proofs.Common.{rules}
use Rattle.reentrant.proofs.lock.LockHooks.open.Goals as goal

pub returns-clause-object : goal.returns-clause-object
returns-clause-object c = search rules
