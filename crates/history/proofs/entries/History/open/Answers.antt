use Rattle.std.proofs.Common.{rules}
use Rattle.history.proofs.entries.History.open.Goals as goal

pub returns : goal.returns
returns c = search rules
