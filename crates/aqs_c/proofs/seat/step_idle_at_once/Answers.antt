use Rattle.std.proofs.Common.{inl, refl, None}
use Rattle.aqs_c.proofs.SeatTurns.{seat_stays}
use Rattle.aqs_c.proofs.seat.step_idle_at_once.Goals as goal

pub returns-in_default-clause-stepped : goal.returns-in_default-clause-stepped
returns-in_default-clause-stepped c = inl (refl, seat_stays c.args.pass.now None c.is_true.ensures)

pub returns-in_default-2-clause-stepped : goal.returns-in_default-2-clause-stepped
returns-in_default-2-clause-stepped c = inl (refl, seat_stays c.args.pass.now None c.is_true.ensures)

pub returns-in_default-3-clause-stepped : goal.returns-in_default-3-clause-stepped
returns-in_default-3-clause-stepped c = inl (refl, seat_stays c.args.pass.now None c.is_true.ensures)
