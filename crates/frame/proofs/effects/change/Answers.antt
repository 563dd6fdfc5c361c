use Rattle.std.proofs.Common.{rules}
use Rattle.frame.proofs.effects.change.Goals as goal

pub returns-in-Await-clause-changed : goal.returns-in-Await-clause-changed
returns-in-Await-clause-changed g c = search rules

pub returns-in-Drained-clause-nobody : goal.returns-in-Drained-clause-nobody
returns-in-Drained-clause-nobody g c = search rules
