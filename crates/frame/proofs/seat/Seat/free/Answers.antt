use Rattle.std.proofs.Common.{rules}
use Rattle.frame.proofs.seat.Seat.free.Goals as goal

pub returns : goal.returns
returns c = search rules
