-- A token with which one seat may take the lock.
use Rattle.std.specs.Prelude.{◌≡◌, ℕ, true, length}
use Rattle.word_lock.specs.Ticket.{LockId, Ticket, first_seat}

-- the token is free, belongs to this lock, and has just this seat
pub record IsReady (lock : LockId) (seat : ℕ) (t : Ticket) : Type 0 where
  pub own : t.lock ≡ lock
  pub free : t.free ≡ true
  pub one : length t.logs ≡ 1
  pub seat_is : first_seat t.logs ≡ seat
