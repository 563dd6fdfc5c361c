use Rattle.std.proofs.Common.{rules}
use Rattle.deciding.proofs.entries.sleeping_entry.Goals as goal

pub returns-in-Expire : goal.returns-in-Expire
returns-in-Expire c = search rules
