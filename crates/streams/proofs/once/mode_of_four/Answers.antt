use Rattle.std.proofs.Common.{rules}
use Rattle.streams.proofs.once.mode_of_four.Goals as goal

pub returns-then-bytes-four-2-clause-found : goal.returns-then-bytes-four-2-clause-found
returns-then-bytes-four-2-clause-found c = search rules
