-- The numbers that a history determines.
--
-- A history is the list of its entries, the newest first: `e ∷ h` is the entry e after the history h. The
-- number of e, counted from 0, is the length of h.
use Rattle.std.specs.Prelude.{ℕ, zero, suc, ◌+◌, ◌-◌, ◌==◌, nat_lt, ◌&&◌, if◌then◌else◌, List, [], ◌∷◌, Option, Some, None, ℤ, pos, ◌+ℤ◌, ◌-ℤ◌}
use Rattle.history.specs.Types.{Entry, Mode, X, S, Word, Got, TryGot, Granted, Gave, Await, Back, Counted, Drained, Object}
use Rattle.history.specs.Entry.{same_mode}
use Rattle.history.specs.Object.{in_holds, is_semaphore, opening_count}
use Rattle.history.specs.Start.{Start}

-- the holds of a seat after one of its entries, in that entry's mode; a release takes away no more than is
-- held
abbrev pub holds_after : Object → Word → ℕ → ℕ → ℕ
holds_after o Got n had = had + in_holds o n
holds_after o TryGot n had = had + in_holds o n
holds_after o Granted n had = had + in_holds o n
holds_after o Drained n had = had + n
holds_after o Gave n had = had - in_holds o n
holds_after o Await n had = 0
holds_after o Back n had = had + n
holds_after o _ n had = had

-- the holds of a seat in a mode
abbrev pub held : Start → List Entry → ℕ → Mode → ℕ
held s [] i m = s.held i m
held s (e ∷ h) i m =
    if (e.seat == i) && same_mode e.mode m then holds_after s.header.object e.word e.n (held s h i m)
    else held s h i m

-- how much a release is above what its seat held
abbrev pub beyond : Word → ℕ → ℕ → ℕ
beyond Gave n had = n - had
beyond _ n had = 0

-- the permits of a semaphore that were released by seats that didn't hold them
abbrev pub unheld : Start → List Entry → ℕ
unheld s [] = s.unheld
unheld s (e ∷ h) =
    unheld s h + (if is_semaphore s.header.object then beyond e.word e.n (held s h e.seat e.mode) else 0)

-- the free permits after an entry: what was acquired is taken off, what was released is added
abbrev pub free_after : Word → ℕ → ℤ → ℤ
free_after Got n had = had -ℤ pos n
free_after TryGot n had = had -ℤ pos n
free_after Granted n had = had -ℤ pos n
free_after Drained n had = had -ℤ pos n
free_after Gave n had = had +ℤ pos n
free_after _ n had = had

abbrev pub free : Start → List Entry → ℤ
free s [] = s.free
free s (e ∷ h) = free_after e.word e.n (free s h)

-- how often a latch was counted down
abbrev pub counted_after : Word → ℕ → ℕ
counted_after Counted n = n + 1
counted_after _ n = n

abbrev pub counted : Start → List Entry → ℕ
counted s [] = s.counted
counted s (e ∷ h) = counted_after e.word (counted s h)

-- the count of a latch: its opening number less the countings, and never below 0
abbrev pub count : Start → List Entry → ℕ
count s h = opening_count s.header.object - counted s h

-- The numbers that decide what can be acquired, in whatever way they are kept.
pub record Counts : Type 0 where
  pub object : Object
  pub seats : ℕ
  pub held : ℕ → Mode → ℕ
  pub free : ℤ
  pub count : ℕ

-- the counts of a history
abbrev pub counts : Start → List Entry → Counts
counts s h =
    record {
      object = s.header.object;
      seats = s.header.seats;
      held = held s h;
      free = free s h;
      count = count s h;
    }

-- the seat, of the first n, for which f is above 0
abbrev pub seat_with : ℕ → (ℕ → ℕ) → Option ℕ
seat_with zero f = None
seat_with (suc n) f = if nat_lt 0 (f n) then Some n else seat_with n f

-- the sum of f over the first n seats
abbrev pub total : ℕ → (ℕ → ℕ) → ℕ
total zero f = 0
total (suc n) f = total n f + f n

-- the seat with exclusive holds, if any
abbrev pub owner : Counts → Option ℕ
owner k = seat_with k.seats (λ i. k.held i X)

-- the shared holds of all seats
abbrev pub readers : Counts → ℕ
readers k = total k.seats (λ i. k.held i S)
