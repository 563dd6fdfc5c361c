-- That whoever sleeps at a lock was woken.
use Rattle.history.specs.declared.point.Point.{Point}
use Rattle.word_lock.specs.Ticket.{LockId}

-- One thread that sleeps at the lock was woken, if one does and the value was there. The token of whoever woke it had
-- put the value back, and had seen just so much. What it means stays hidden. So only a function that calls
-- `WordLock.wake` can meet a contract that promises it, and only once it has seen what it tells.
pub WasWoken : LockId → Point → Type 0
WasWoken lock seen = Unit {0}

-- for `WordLock.wake` alone
pub woken : (lock : LockId) (seen : Point) → WasWoken lock seen
unfolding WasWoken
woken lock seen = tt
