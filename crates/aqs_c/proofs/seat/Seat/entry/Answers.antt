use Rattle.std.specs.Arc.{arc_value}
use Rattle.aqs_c.proofs.SeatTurns.{seat_read}
use Rattle.aqs_c.proofs.seat.Seat.entry.Goals as goal

pub invariant_of-self : goal.invariant_of-self
invariant_of-self c =
    let looked = c.read_quietly-found.ensures in
    seat_read (arc_value c.self.inside.monitor) c.self.inside.pass c.read_quietly-found.new.pass
    c.self.inside.waiting c.read_quietly-found.result c.is_true.ensures looked.busy looked.looked
    c.self.invariant
