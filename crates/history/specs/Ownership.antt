-- A lock or read-write lock has one owner, and nobody else reads at the same time.
use Rattle.std.specs.Prelude.{◌≡◌, ◌<◌, ◌≤◌, ℕ, Bool, true, false, List}
use Rattle.history.specs.Types.{MOST_HOLDS, MOST_READ_WRITE_HOLDS, Entry, Mode, X, S, Object, Lock, ReadWrite, Semaphore, Latch}
use Rattle.history.specs.Counts.{held, total}
use Rattle.history.specs.Phase.{Phase, Idle, InLine, Sleeping}
use Rattle.history.specs.Sleepers.{last_sleep}
use Rattle.history.specs.Start.{Start}

-- the greatest number of exclusive holds of one seat, and of shared holds of all seats
abbrev pub most_exclusive : Object → ℕ
most_exclusive (Lock policy) = MOST_HOLDS
most_exclusive (ReadWrite policy) = MOST_READ_WRITE_HOLDS
most_exclusive (Semaphore policy permits) = 0
most_exclusive (Latch opening) = 0

abbrev pub most_shared : Object → ℕ
most_shared (Lock policy) = 0
most_shared (ReadWrite policy) = MOST_READ_WRITE_HOLDS
most_shared (Semaphore policy permits) = 0
most_shared (Latch opening) = 0

-- At most one seat has exclusive holds. While it has, no other seat has shared ones. The holds are within the
-- limits.
pub record IsOwned (s : Start) (h : List Entry) : Type 0 where
  pub one : (i j : ℕ) → 0 < held s h i X → 0 < held s h j X → i ≡ j
  pub alone : (i j : ℕ) → 0 < held s h i X → 0 < held s h j S → i ≡ j
  pub exclusive : (i : ℕ) → held s h i X ≤ most_exclusive s.header.object
  pub shared : total s.header.seats (λ i. held s h i S) ≤ most_shared s.header.object

-- a seat that waits on a condition, or is on its way back from one
abbrev pub is_away : Phase → Bool
is_away Idle = false
is_away (InLine a) = a.back
is_away Sleeping = true

-- A seat that gave up its holds to wait on a condition holds nothing, and will have back at most as many as a
-- seat may hold.
pub record IsSaved (s : Start) (h : List Entry) (i : ℕ) : Type 0 where
  pub nothing : (m : Mode) → held s h i m ≡ 0
  pub some : 1 ≤ (last_sleep s h i).holds
  pub most : (last_sleep s h i).holds ≤ most_exclusive s.header.object
