-- What the calls of a latch say of its count.
use Rattle.std.specs.Prelude.{◌≡◌, ◌<◌, ◌≤◌, ℕ, ◌-◌, Bool, true, Result, Ok}
use Rattle.monitor_fronts.specs.Below.{count, is_latch, Fault, Point, start_at, Shown, Before}
use Rattle.monitor_fronts.specs.OwnEntry.{AtOwnEntry}

-- the count of a latch in a history
abbrev pub count_at : Point → ℕ
count_at p = count (start_at p) p.entries

-- the count is 0 in the history that the pass has seen
abbrev pub IsOpen : Shown → Type 0
IsOpen p = count_at p.seen ≡ 0

-- the count that the pass sees now is at least so much less, or 0
abbrev pub FallsBy : ℕ → Shown → Shown → Type 0
FallsBy n old new = count_at new.seen ≤ count_at old.seen - n

-- The count was above 0 at a place of the history after all that the pass had seen, and so in that too.
pub record WasShut (old new : Shown) : Type 0 where
  pub place : Point
  pub begins : Before old.seen place
  pub there : Before place new.seen
  pub above : 0 < count_at place
  pub seen : 0 < count_at old.seen

-- an entry counted down by 1; at 0 it changed nothing
abbrev pub IsCounted : Point → Point → Type 0
IsCounted before after = count_at after ≡ count_at before - 1

-- if a call returned yes, its entry counted a latch down
abbrev pub CountsDown : Shown → Result Bool Fault → Shown → Type 0
CountsDown old told new =
    is_latch old.lock.header.object ≡ true → told ≡ Ok true → AtOwnEntry IsCounted old new
