use Rattle.std.proofs.Common.{rules}
use Rattle.deciding.proofs.entries.queued_entry.Goals as goal

pub returns-else-goes-2 : goal.returns-else-goes-2
returns-else-goes-2 c = search rules
