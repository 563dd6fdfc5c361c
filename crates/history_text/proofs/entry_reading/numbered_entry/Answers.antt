use Rattle.std.proofs.Common.{rules}
use Rattle.history_text.specs.EntryReading.{line_at}
use Rattle.history_text.proofs.entry_reading.numbered_entry.Goals as goal

pub returns-clause-is : goal.returns-clause-is
unfolding line_at
returns-clause-is c = search rules

pub returns-clause-found : goal.returns-clause-found
unfolding line_at
returns-clause-found c = search rules
