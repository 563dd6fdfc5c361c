use Rattle.std.proofs.Common.{rules}
use Rattle.history.proofs.number.Numbering.keep.Goals as goal

pub returns-else-hundreds-self : goal.returns-else-hundreds-self
returns-else-hundreds-self c = search rules
