-- What every call asks of its pass, and what it leaves.
use Rattle.std.specs.Prelude.{◌≡◌, ◌≤◌, ℕ}
use Rattle.monitor.specs.Below.{Before, LockId}
use Rattle.monitor.specs.Shown.{Shown, IsSound}
use Rattle.monitor.specs.Stepping.{IsSame}
use Rattle.word_lock.specs.Woken.{WasWoken}

-- The pass is one of this monitor's, and there is a place to park for each seat.
pub record CanCall (lock : LockId) (seats : ℕ) (pass : Shown) : Type 0 where
  pub is_of : pass.lock ≡ lock
  pub places : lock.header.seats ≤ seats

-- It is a pass of the same monitor and seat. What it has seen comes after what it had seen, is lawful, and has of its
-- seat the entries that the pass shows.
pub record CalledQuietly (old new : Shown) : Type 0 where
  pub same : IsSame old new
  pub begins : Before old.seen new.seen
  pub shows : IsSound new

-- The same, and whoever sleeps at the lock was woken by one who had put back what the pass has seen.
pub record Called (old new : Shown) : Type 0 where
  pub same : IsSame old new
  pub begins : Before old.seen new.seen
  pub shows : IsSound new
  pub woken : WasWoken new.lock new.seen
