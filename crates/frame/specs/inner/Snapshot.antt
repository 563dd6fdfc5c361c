-- What the fields of a core come to as a base.
use Rattle.std.specs.Prelude.{◌≡◌, ◌<◌, ◌+◌, ◌^◌, ℕ, if◌then◌else◌, List, length, slice_index_or, pos, ◌+ℤ◌}
use Rattle.frame.specs.Below.{Line, Keeps, Sleepers, Balance, balance, sleep_of, LinePlace, SeatBase, Sleeper, Entry, Object, Semaphore, Base, based, stands_from, MayFold}
use Rattle.frame.specs.declared.seat.Seat.{Seat}
use Rattle.frame.specs.Seat.{AreCalled, IsSeat, no_holds}

-- the record of a seat in a table
abbrev pub seat_in : List Seat → ℕ → Seat
seat_in seats i = slice_index_or seats i no_holds

-- what a base has of a seat
abbrev pub in_base : Seat → SeatBase
in_base seat = record { calls = seat.calls; exclusive = seat.exclusive; shared = seat.shared }

-- a waiter in the queue, with its sleep if it comes back from one
abbrev pub with_sleep : List Seat → LinePlace → LinePlace
with_sleep seats p = if p.who.back then stands_from p.who (sleep_of (seat_in seats p.who.seat).sleep) else p

-- a waiter of a condition, with the holds that it gave up
abbrev pub sleeper_in : List Seat → ℕ → Sleeper
sleeper_in seats i = record { seat = i; holds = (seat_in seats i).sleep.holds }

-- The permits released unheld: those held and free, less those created. Other objects keep what they had.
abbrev pub IsUnheldBy : Object → ℕ → Balance → ℕ → Type 0
IsUnheldBy (Semaphore policy permits) was totals n =
    pos totals.shared +ℤ totals.available ≡ permits +ℤ pos n
IsUnheldBy _ was totals n = n ≡ was

-- The totals, the queue, the conditions' waiters and the table of seats are those after some entries on a
-- base, which may be folded.
pub record IsKept (b : Base) (h : List Entry) (count : ℕ) (totals : Balance) (queue : Line)
    (waiters : Sleepers) (table : List Seat) : Type 0 where
  pub may_fold : MayFold b h
  pub few : b.entries + length h < 2 ^ 128
  pub counted : count ≡ length h
  pub totalled : totals ≡ balance (based b) h
  pub small : totals.shared < 2 ^ 126
  pub waiting : Keeps (based b) h queue waiters
  pub seats : length table ≡ b.header.seats
  pub tabled : (i : ℕ) → i < b.header.seats → IsSeat (based b) h i (slice_index_or table i no_holds)
  pub called : AreCalled b.header.seats b h table
