use Rattle.std.proofs.Common.{rules}
use Rattle.history.specs.EntryReading.{entry_at}
use Rattle.history.proofs.words.Words.entry.Goals as goal

pub returns-in_ok-asked-in-Some-clause-is : goal.returns-in_ok-asked-in-Some-clause-is
unfolding entry_at
returns-in_ok-asked-in-Some-clause-is c = search rules

pub returns-in_ok-asked-in-Some-clause-found : goal.returns-in_ok-asked-in-Some-clause-found
returns-in_ok-asked-in-Some-clause-found c = search rules
