use Rattle.std.proofs.Common.{rules}
use Rattle.frame.proofs.seat.Seat.follow.Goals as goal

pub returns-in-Await : goal.returns-in-Await
returns-in-Await c = search rules
