use Rattle.std.proofs.Common.{refl, sym, subst}
use Rattle.std.specs.List.{All}
use Rattle.word_lock.specs.Point.{blank_point}
use Rattle.word_lock.specs.Ready.{IsReady}
use Rattle.word_lock.specs.Ticket.{LockId, Ticket, first_seat}
use Rattle.word_lock.proofs.PointLaws.{agrees_empty}
use Rattle.word_lock.proofs.Tokens.{opening_tickets_ready}
use Rattle.test_stops.proofs.locks.open.Goals as goal

abbrev IsReadyOf : LockId → Ticket → Type 0
IsReadyOf lock t = IsReady lock (first_seat t.logs) t

pub open-requires-clause-empty : goal.open-requires-clause-empty
open-requires-clause-empty c = λ seat. agrees_empty _ seat blank_point refl refl

pub returns-in-Ok : goal.returns-in-Ok
returns-in-Ok c = let lock : LockId = c.in-Ok.lock in
    subst (All (IsReadyOf lock)) (sym c.in-Ok.ensures.tokens) (opening_tickets_ready lock blank_point 0 c.args.seats)
