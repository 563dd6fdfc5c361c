use Rattle.std.proofs.Common.{length}
use Rattle.picture.proofs.naming.names.+some_seat.Given as goal

abbrev pub decreases-some_seat : goal.decreases-some_seat
decreases-some_seat l = length l.given.now
