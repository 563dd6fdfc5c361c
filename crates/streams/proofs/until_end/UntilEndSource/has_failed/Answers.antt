use Rattle.std.proofs.Common.{rules}
use Rattle.streams.proofs.until_end.UntilEndSource.has_failed.Goals as goal

pub returns : goal.returns
returns g c = search rules
