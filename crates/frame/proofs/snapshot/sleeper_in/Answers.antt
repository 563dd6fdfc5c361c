use Rattle.std.proofs.Common.{rules}
use Rattle.frame.proofs.snapshot.sleeper_in.Goals as goal

pub returns : goal.returns
returns c = search rules
