use Rattle.std.proofs.Common.{rules}
use Rattle.history.proofs.entry_reading.asking.Goals as goal

pub returns-then-eq-4-clause-found : goal.returns-then-eq-4-clause-found
returns-then-eq-4-clause-found c = search rules
