use Rattle.std.proofs.Common.{rules}
use Rattle.audit.proofs.totals.totals.Goals as goal

pub returns-in-Ok-Legal-clause-are : goal.returns-in-Ok-Legal-clause-are
returns-in-Ok-Legal-clause-are c = search rules
