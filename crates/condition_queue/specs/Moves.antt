-- What changes, and what stays, when waiters move from a condition to the wait queue.
use Rattle.std.specs.Prelude.{◌≡◌, ℕ, ◌+◌, ◌==◌, if◌then◌else◌, ◌++◌, map, take, drop, None}
use Rattle.condition_queue.specs.Below.{coming_back, has, Line}
use Rattle.condition_queue.specs.Sleepers.{Sleepers, asleep_on, sleeper_of}

-- The n longest waiters of a condition joined the end of the queue, in order.
pub record Moves (c n : ℕ) (old new : Sleepers) (before after : Line) : Type 0 where
  pub arrivals : after.arrivals ≡ before.arrivals ++ map coming_back (take n (asleep_on old c))
  pub lists : (d : ℕ) → asleep_on new d ≡ (if c == d then drop n (asleep_on old d) else asleep_on old d)
  pub sleepers : (i : ℕ) → sleeper_of new i ≡ (if has i (take n (asleep_on old c)) then None
      else sleeper_of old i)
  pub joined : after.joined ≡ before.joined + n
  pub line_seats : after.seats ≡ before.seats
  pub seats : new.seats ≡ old.seats
  pub conditions : new.conditions ≡ old.conditions
