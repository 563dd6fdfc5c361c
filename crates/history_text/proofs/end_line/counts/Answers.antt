use Rattle.std.proofs.Common.{rules}
use Rattle.history_text.specs.EntryReading.{counts_at}
use Rattle.history_text.proofs.end_line.counts.Goals as goal

pub returns-in_err-number-clause-is : goal.returns-in_err-number-clause-is
unfolding counts_at
returns-in_err-number-clause-is c = search rules

pub returns-clause-is : goal.returns-clause-is
unfolding counts_at
returns-clause-is c = search rules

pub returns-clause-found : goal.returns-clause-found
unfolding counts_at
returns-clause-found c = search rules
