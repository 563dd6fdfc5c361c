use Rattle.std.specs.Arc.{arc_value}
use Rattle.aqs_c.proofs.SeatTurns.{seat_trimmed}
use Rattle.aqs_c.proofs.seat.Seat.trim.Goals as goal

pub invariant_of-self : goal.invariant_of-self
invariant_of-self c =
    let folded = c.trim_quietly.ensures in
    seat_trimmed (arc_value c.self.inside.monitor) c.self.inside.pass c.trim_quietly.new.pass
    c.self.inside.waiting c.trim_quietly.result c.is_true.ensures folded.called.shows folded.called.same
    folded.trimmed
    c.self.invariant
