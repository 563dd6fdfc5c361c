-- A token while it has taken the value.
use Rattle.std.specs.Prelude.{false}
use Rattle.word_lock.specs.declared.held.Held.{Held}
use Rattle.word_lock.specs.Ticket.{Ticket, ticket}

abbrev pub held_ticket : {T : Type 0} → Held T → Ticket
held_ticket h = ticket h.seat.table_id false h.seat.me.0
