use Rattle.std.proofs.Common.{◌≡◌, ℕ, ◌+◌, ◌≤◌, vec_len, vec_capacity}
use Rattle.word_lock.specs.Ticket.{opening_tickets}
use Rattle.monitor.specs.Prelude.{blank, opening_passes}
use Rattle.monitor.proofs.monitor.give_passes.Given as goal

abbrev pub invariant-loop-token : goal.invariant-loop-token
invariant-loop-token g l =
    ((n : ℕ) × (l.seat + n ≡ l.seats) × (l.token-iterator.rest.items ≡
    opening_tickets l.lock (blank l.lock.header) l.seat n))
    × (l.passes.items ≡ opening_passes l.lock (blank l.lock.header) 0 l.seat)
    × (vec_len l.passes ≡ l.seat) × (l.seats ≤ vec_capacity l.passes)
    × (vec_capacity l.passes ≡ vec_capacity l.fn.passes)
