use Rattle.std.specs.Arc.{arc_value}
use Rattle.aqs_c.proofs.SeatTurns.{seat_read}
use Rattle.aqs_c.proofs.seat.Seat.contention.Goals as goal

pub invariant_of-self : goal.invariant_of-self
invariant_of-self c =
    let looked = c.contention_quietly.ensures in
    seat_read (arc_value c.self.inside.monitor) c.self.inside.pass c.contention_quietly.new.pass
    c.self.inside.waiting c.contention_quietly.result c.is_true.ensures looked.busy looked.looked
    c.self.invariant
