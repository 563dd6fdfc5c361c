use Rattle.std.proofs.Common.{rules}
use Rattle.streams.proofs.once.mode_of_once.Goals as goal

pub returns-in_err-bytes-clause-none : goal.returns-in_err-bytes-clause-none
returns-in_err-bytes-clause-none c = search rules
