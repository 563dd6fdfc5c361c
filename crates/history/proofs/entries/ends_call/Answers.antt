use Rattle.std.proofs.Common.{rules}
use Rattle.history.proofs.entries.ends_call.Goals as goal

pub returns : goal.returns
returns c = search rules
