use Rattle.std.proofs.Common.{rules}
use Rattle.deciding.proofs.entries.plain.Goals as goal

pub returns : goal.returns
returns c = search rules
