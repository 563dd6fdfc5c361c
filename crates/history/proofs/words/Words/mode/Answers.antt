use Rattle.std.proofs.Common.{rules}
use Rattle.history.proofs.words.Words.mode.Goals as goal

pub returns-then-eq-clause-found : goal.returns-then-eq-clause-found
returns-then-eq-clause-found c = search rules
