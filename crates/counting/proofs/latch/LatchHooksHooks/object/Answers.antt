use Rattle.std.proofs.Common.{refl}
use Rattle.counting.proofs.latch.LatchHooksHooks.object.Goals as goal

pub returns : goal.returns
returns c = refl
