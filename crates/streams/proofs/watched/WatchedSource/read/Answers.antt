use Rattle.std.proofs.Common.{rules}
use Rattle.streams.proofs.watched.WatchedSource.read.Goals as goal

pub returns-in-Ok-eq0-clause-untold : goal.returns-in-Ok-eq0-clause-untold
returns-in-Ok-eq0-clause-untold g c = search rules

pub returns-in-Ok-clause-told : goal.returns-in-Ok-clause-told
returns-in-Ok-clause-told g c = search rules

pub returns-in-Ok-eq0-2-clause-end : goal.returns-in-Ok-eq0-2-clause-end
returns-in-Ok-eq0-2-clause-end g c = search rules

pub returns-in-Ok-eq0-2-clause-failure : goal.returns-in-Ok-eq0-2-clause-failure
returns-in-Ok-eq0-2-clause-failure g c = search rules
