use Rattle.std.proofs.Common.{rules}
use Rattle.streams.proofs.turns.strikes.Goals as goal

pub returns-in-Some-clause-after : goal.returns-in-Some-clause-after
returns-in-Some-clause-after c = search rules
