use Rattle.std.proofs.Common.{Option, inr, sym, subst}
use Rattle.monitor.specs.declared.machine.Waiting.{Waiting}
use Rattle.aqs_c.specs.Standing.{StandsBy}
use Rattle.aqs_c.proofs.SeatTurns.{stands_left}
use Rattle.aqs_c.proofs.seat.begin_idle.Goals as goal

pub returns-clause-stands : goal.returns-clause-stands
returns-clause-stands c =
    subst (λ (w : Option Waiting). StandsBy w c.begin_quietly-turn.new.pass) (sym c.begin_wait.ensures)
    (stands_left c.in-Some-turn.turn.next c.begin_quietly-turn.new.pass c.in-Some-turn.ensures.waits)

pub returns-clause-begun : goal.returns-clause-begun
returns-clause-begun c =
    inr (inr (record {
      request = c.in-Some.asked.request;
      how = c.in-Some.asked.how;
      was = c.in-Some.asked.interrupted;
      turn = c.in-Some-turn.turn;
      is_call = c.in-Some.ensures.some;
      begun = c.in-Some-turn.ensures.begun;
      is_turn = (c.turn_answer.ensures.next, c.turn_answer.ensures.named);
      waiting = c.begin_wait.ensures;
    }))
