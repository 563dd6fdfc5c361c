use Rattle.std.proofs.Common.{rules}
use Rattle.word_lock.proofs.lock.WordLock.join.Goals as goal

pub returns-clause-token : goal.returns-clause-token
returns-clause-token g c = search rules
