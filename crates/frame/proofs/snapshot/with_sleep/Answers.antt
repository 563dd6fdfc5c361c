use Rattle.std.proofs.Common.{rules}
use Rattle.frame.proofs.snapshot.with_sleep.Goals as goal

pub returns : goal.returns
returns c = search rules
