use Rattle.std.proofs.Common.{rules}
use Rattle.streams.proofs.reading_on.told_at_the_end.Goals as goal

pub returns-in-Err-clause-told : goal.returns-in-Err-clause-told
returns-in-Err-clause-told g c = search rules
