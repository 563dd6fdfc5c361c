-- What holds where a call recorded an entry.
use Rattle.std.specs.Prelude.{◌≡◌}
use Rattle.monitor_fronts.specs.Below.{Entry, Point, Shown, with_entry, Before}

-- The call recorded an entry of the pass at a place of the history: after all that the pass had seen, and before all
-- that it has seen since. The fact is one of the history before that entry and with it.
pub record AtOwnEntry (fact : Point → Point → Type 0) (old new : Shown) : Type 0 where
  pub place : Point
  pub entry : Entry
  pub own : entry.seat ≡ old.seat
  pub begins : Before old.seen place
  pub there : Before (with_entry entry place) new.seen
  pub is : fact place (with_entry entry place)
