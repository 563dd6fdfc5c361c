-- What a seat could acquire, when it is at its limit, and when the queue holds it back.
use Rattle.std.specs.Prelude.{ℕ, ◌==◌, nat_lt, Bool, true, false, ◌&&◌, ◌||◌, not, if◌then◌else◌, Option, Some, None, pos, ◌-ℤ◌, int_le}
use Rattle.history.specs.Types.{MOST_HOLDS, MOST_READ_WRITE_HOLDS, Mode, X, S, Object, Lock, ReadWrite, Semaphore, Latch}
use Rattle.history.specs.Counts.{Counts, owner, readers}
use Rattle.history.specs.Entry.{is_exclusive}
use Rattle.history.specs.Object.{is_fair_policy, is_strict}

-- the limits of holds, under the names that other crates cite
abbrev pub max_holds : ℕ
max_holds = MOST_HOLDS

abbrev pub max_shared : ℕ
max_shared = MOST_READ_WRITE_HOLDS

-- this seat, and no other
abbrev pub is_seat : Option ℕ → ℕ → Bool
is_seat None i = false
is_seat (Some j) i = j == i

-- nobody, or this seat
abbrev pub is_none_or : Option ℕ → ℕ → Bool
is_none_or None i = true
is_none_or (Some j) i = j == i

-- Anybody can acquire a free lock, and its owner can acquire it again below the limit. To write, no other
-- seat may own or read. To read, no other seat may own. For a semaphore all permits of the request must be
-- free. A latch opens at 0. A mode that the object lacks is never acquired.
abbrev pub could_of : Object → Counts → ℕ → Mode → ℕ → Bool
could_of (Lock policy) k i X n = is_none_or (owner k) i && nat_lt (k.held i X) MOST_HOLDS
could_of (ReadWrite policy) k i X n =
    if is_seat (owner k) i then nat_lt (k.held i X) MOST_READ_WRITE_HOLDS
    else is_none_or (owner k) i && (readers k == 0)
could_of (ReadWrite policy) k i S n = is_none_or (owner k) i && nat_lt (readers k) MOST_READ_WRITE_HOLDS
could_of (Semaphore policy permits) k i S n = int_le (pos 0) (k.free -ℤ pos n)
could_of (Latch opening) k i S n = k.count == 0
could_of _ k i m n = false

-- whether a seat could acquire n in a mode
abbrev pub could : Counts → ℕ → Mode → ℕ → Bool
could k i m n = could_of k.object k i m n

-- Whether a seat is at the limit: it has the greatest number of exclusive holds, or it asks to read, no other
-- seat owns, and all seats together have the greatest number of read holds.
abbrev pub limit_of : Object → Counts → ℕ → Mode → Bool
limit_of (Lock policy) k i X = k.held i X == MOST_HOLDS
limit_of (ReadWrite policy) k i X = k.held i X == MOST_READ_WRITE_HOLDS
limit_of (ReadWrite policy) k i S = is_none_or (owner k) i && (readers k == MOST_READ_WRITE_HOLDS)
limit_of _ k i m = false

abbrev pub limit : Counts → ℕ → Mode → Bool
limit k i m = limit_of k.object k i m

-- A call of the owner, and a read by a seat that reads, is reentrant. Permits don't count as holds here.
abbrev pub is_reentrant_of : Object → Counts → ℕ → Mode → Bool
is_reentrant_of (Lock policy) k i m = is_seat (owner k) i
is_reentrant_of (ReadWrite policy) k i m =
    is_seat (owner k) i || (not (is_exclusive m) && nat_lt 0 (k.held i S))
is_reentrant_of _ k i m = false

abbrev pub is_reentrant : Counts → ℕ → Mode → Bool
is_reentrant k i m = is_reentrant_of k.object k i m

-- The new calls that a queue holds back, by the mode that its head asks for. In a fair or strict object it
-- holds back all. In a non-fair read-write lock it holds back reads if the head asks to write. In a latch it
-- holds back none.
abbrev pub line_blocks : Object → Mode → Option Mode → Bool
line_blocks o m None = false
line_blocks (Lock policy) m (Some first) = is_fair_policy policy
line_blocks (ReadWrite policy) m (Some first) =
    is_fair_policy policy || (not (is_exclusive m) && is_exclusive first)
line_blocks (Semaphore policy permits) m (Some first) = is_fair_policy policy
line_blocks (Latch opening) m (Some first) = false

-- a new call that isn't reentrant, and that the queue holds back
abbrev pub held_back : Counts → Option Mode → ℕ → Mode → Bool
held_back k first i m = not (is_reentrant k i m) && line_blocks k.object m first

-- A try barges past the queue, except in a strict object, whose queue holds it back as it does an acquire.
abbrev pub try_held_back : Counts → Option Mode → ℕ → Mode → Bool
try_held_back k first i m = is_strict k.object && held_back k first i m
