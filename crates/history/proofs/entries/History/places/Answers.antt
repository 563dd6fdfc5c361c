use Rattle.std.proofs.Common.{rules}
use Rattle.history.proofs.entries.History.places.Goals as goal

pub returns-clause-value : goal.returns-clause-value
returns-clause-value c = search rules
