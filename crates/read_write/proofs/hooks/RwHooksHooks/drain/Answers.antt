use Rattle.std.proofs.Common.{rules}
use Rattle.read_write.proofs.hooks.RwHooksHooks.drain.Goals as goal

pub returns-clause-drained : goal.returns-clause-drained
returns-clause-drained c = search rules
