use Rattle.std.proofs.Common.{refl}
use Rattle.read_write.proofs.hooks.RwHooksHooks.object.Goals as goal

pub returns : goal.returns
returns c = refl
