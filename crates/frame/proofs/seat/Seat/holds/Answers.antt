use Rattle.std.proofs.Common.{rules}
use Rattle.frame.proofs.seat.Seat.holds.Goals as goal

pub returns-in-S : goal.returns-in-S
returns-in-S c = search rules
