use Rattle.std.proofs.Common.{rules}
use Rattle.history.proofs.words.Words.expect.Goals as goal

pub returns-else-eq-clause-is : goal.returns-else-eq-clause-is
returns-else-eq-clause-is c = search rules
