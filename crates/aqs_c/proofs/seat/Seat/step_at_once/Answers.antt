use Rattle.std.proofs.Common.{inl, refl}
use Rattle.aqs_c.proofs.SeatTurns.{seat_stays}
use Rattle.aqs_c.proofs.seat.Seat.step_at_once.Goals as goal

pub returns-in-Some : goal.returns-in-Some
returns-in-Some c =
    rw (← c.self.view_is) (inl (refl, seat_stays c.self.inside.pass c.self.inside.waiting c.is_true.ensures))
