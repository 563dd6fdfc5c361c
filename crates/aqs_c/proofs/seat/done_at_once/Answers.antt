use Rattle.aqs_c.proofs.SeatTurns.{at_once}
use Rattle.aqs_c.proofs.seat.done_at_once.Goals as goal

pub returns-clause-stepped : goal.returns-clause-stepped
returns-clause-stepped c =
    let made = c.step_at_once_quietly.ensures in
    λ code is_code. at_once _ _ _ code c.step_at_once_quietly.result _ is_code c.done_number.ensures made.stepped
    made.looked
