use Rattle.std.proofs.Common.{rules}
use Rattle.deciding.proofs.entries.named.Goals as goal

pub returns-else-was_ready : goal.returns-else-was_ready
returns-else-was_ready c = search rules
