use Rattle.std.proofs.Common.{rules}
use Rattle.deciding.proofs.checks.refused_as.Goals as goal

pub returns-then-is_bad_amount : goal.returns-then-is_bad_amount
returns-then-is_bad_amount c = search rules
