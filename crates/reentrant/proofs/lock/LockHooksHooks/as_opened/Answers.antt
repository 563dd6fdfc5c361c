use Rattle.std.proofs.Common.{rules}
use Rattle.reentrant.proofs.lock.LockHooksHooks.as_opened.Goals as goal

pub returns : goal.returns
returns c = search rules
