use Rattle.std.proofs.Common.{refl}
use Rattle.reentrant.proofs.lock.LockHooksHooks.object.Goals as goal

pub returns : goal.returns
returns c = refl
