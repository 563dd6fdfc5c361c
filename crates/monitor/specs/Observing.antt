-- What an observer leaves.
use Rattle.std.specs.Prelude.{◌≡◌, Some}
use Rattle.monitor.specs.Below.{HistoryView, Point, Before}
use Rattle.monitor.specs.Shown.{Shown, IsSound}
use Rattle.word_lock.specs.Woken.{WasWoken}

-- the pass may have seen more, and nothing else has changed
pub record IsQuietLook (old new : Shown) : Type 0 where
  pub lock : new.lock ≡ old.lock
  pub seat : new.seat ≡ old.seat
  pub begins : Before old.seen new.seen
  pub mine : new.mine ≡ old.mine
  pub share : new.share ≡ old.share
  pub shows : IsSound new

-- the same, and whoever sleeps at the lock was woken by one who had put back what the pass has seen
pub record IsLook (old new : Shown) : Type 0 where
  pub lock : new.lock ≡ old.lock
  pub seat : new.seat ≡ old.seat
  pub begins : Before old.seen new.seen
  pub mine : new.mine ≡ old.mine
  pub share : new.share ≡ old.share
  pub shows : IsSound new
  pub woken : WasWoken new.lock new.seen

-- the history has the base and the entries of a point
abbrev pub IsHistoryOf : Point → HistoryView → Type 0
IsHistoryOf p h = (h.base ≡ Some p.base) × (h.entries ≡ p.entries)
