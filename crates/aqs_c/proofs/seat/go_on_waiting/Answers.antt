use Rattle.std.proofs.Common.{Option, sym, subst}
use Rattle.monitor.specs.declared.machine.Waiting.{Waiting}
use Rattle.aqs_c.specs.Standing.{StandsBy}
use Rattle.aqs_c.proofs.SeatTurns.{stands_left}
use Rattle.aqs_c.proofs.seat.go_on_waiting.Goals as goal

pub returns-clause-stands : goal.returns-clause-stands
returns-clause-stands c =
    subst (λ (w : Option Waiting). StandsBy w c.go_on_quietly.new.pass) (sym c.waiting_in.ensures)
    (stands_left c.in-Some-go_on_quietly.turn.next c.go_on_quietly.new.pass c.in-Some-go_on_quietly.ensures.waits)
