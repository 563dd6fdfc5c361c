-- The waits of a seat in the queue, as entries that it lets pass.
--
-- A wait begins with an entry by which the seat queues, and ends with the seat's next entry. A waiter in the
-- queue makes no other entry than the one that ends its wait.
use Rattle.std.specs.Prelude.{ℕ, ◌-◌, ◌==◌, nat_lt, Bool, false, not, if◌then◌else◌, List, [], ◌∷◌, length, Option, Some, None}
use Rattle.summing.specs.Below.{Arrival, Entry, line, place_of, Start}
use Rattle.summing.specs.declared.tally.Wait.{Wait}
use Rattle.summing.specs.Counting.{is_queued}

-- one that waits for its first acquire, and doesn't come back from a condition
abbrev pub asks : Option Arrival → Bool
asks None = false
asks (Some a) = not a.back

-- The number of the entry by which a seat began the wait that it is in. A waiter of the start counts from the
-- first entry.
abbrev pub begun : Start → List Entry → ℕ → Option ℕ
begun s [] i = if asks (place_of i (line s [])) then Some 0 else None
begun s (e ∷ h) i =
    if e.seat == i then (if is_queued e.word then Some (length h) else None) else begun s h i

-- a wait from the entry of a number on, after n entries
abbrev pub wait_from : Option ℕ → ℕ → Option Wait
wait_from None n = None
wait_from (Some place) n = Some (record { place = place; entries = n - place })

-- the wait that a seat is in
abbrev pub under_way : Start → List Entry → ℕ → Option Wait
under_way s h i = wait_from (begun s h i) (length h)

abbrev pub with_wait : Option Wait → List Wait → List Wait
with_wait None waits = waits
with_wait (Some w) waits = w ∷ waits

-- the waits of a seat that have ended, the newest first
abbrev pub ended : Start → List Entry → ℕ → List Wait
ended s [] i = []
ended s (e ∷ h) i = if e.seat == i then with_wait (under_way s h i) (ended s h i) else ended s h i

-- all waits of a seat, the newest first
abbrev pub waits : Start → List Entry → ℕ → List Wait
waits s h i = with_wait (under_way s h i) (ended s h i)

-- a wait, if it is longer than an older one
abbrev pub longer : Wait → Option Wait → Option Wait
longer w None = Some w
longer w (Some old) = if nat_lt old.entries w.entries then Some w else Some old

-- the longest of the waits, and of those the oldest
abbrev pub longest_of : List Wait → Option Wait
longest_of [] = None
longest_of (w ∷ older) = longer w (longest_of older)

abbrev pub longest : Start → List Entry → ℕ → Option Wait
longest s h i = longest_of (waits s h i)
