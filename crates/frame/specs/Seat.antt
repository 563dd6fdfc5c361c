-- What the core keeps of a seat, and what it means.
use Rattle.std.specs.Prelude.{◌≡◌, ◌<◌, ◌+◌, ℕ, Bool, true, false, if◌then◌else◌, List, map, Option, Some, None, slice_index_or, slice_set}
use Rattle.history.specs.declared.entry.End.TheVariants as end
use Rattle.frame.specs.Below.{Entry, Mode, X, S, Word, Await, Lapse, Object, Base, calls_of, held, holds_after, ends_call, is_exclusive, own_mark, is_away, phase, last_sleep, Start, LastSleep, sleep_of}
use Rattle.frame.specs.declared.seat.Seat.{Seat}

abbrev pub no_holds : Seat
no_holds =
    record {
      calls = 0;
      exclusive = 0;
      shared = 0;
      sleep = record { condition = 0; holds = 0; how = end.None };
      told = false;
    }

abbrev pub holds_in : Mode → Seat → ℕ
holds_in X seat = seat.exclusive
holds_in S seat = seat.shared

-- an await saves the condition and the holds; a seat that lapses comes back with the end of its lapse
abbrev pub sleep_behind : Word → Entry → LastSleep → LastSleep
sleep_behind Await e was = record { condition = e.at; holds = e.n; how = end.Signalled }
sleep_behind Lapse e was = record { condition = was.condition; holds = was.holds; how = e.end }
sleep_behind _ e was = was

abbrev pub seat_after : Object → Entry → Seat → Seat
seat_after o e was =
    record {
      calls = was.calls + (if ends_call e.word then 1 else 0);
      exclusive = if is_exclusive e.mode then holds_after o e.word e.n was.exclusive else was.exclusive;
      shared = if is_exclusive e.mode then was.shared else holds_after o e.word e.n was.shared;
      sleep = sleep_behind e.word e was.sleep;
      told = own_mark e.word was.told;
    }

-- the record of an entry's seat after the entry
abbrev pub seat_behind : Object → Entry → List Seat → Seat
seat_behind o e seats = seat_after o e (slice_index_or seats e.seat no_holds)

-- a table with a seat's mark set to this value
abbrev pub with_mark : Bool → ℕ → List Seat → List Seat
with_mark told i seats = slice_set seats i (record (slice_index_or seats i no_holds) { told = told })

-- a table with the waiter marked that an entry names
abbrev pub telling : Option ℕ → List Seat → List Seat
telling None seats = seats
telling (Some i) seats = with_mark true i seats

-- the marks of a table, as a list and by seat
abbrev pub told_in : List Seat → List Bool
told_in seats = map (λ (seat : Seat). seat.told) seats

abbrev pub marks_in : List Seat → ℕ → Bool
marks_in seats i = (slice_index_or seats i no_holds).told

-- The record has the holds that the history gives. If the seat is within an await, its last sleep is that of
-- the history.
pub record IsSeat (s : Start) (h : List Entry) (i : ℕ) (x : Seat) : Type 0 where
  pub exclusive : x.exclusive ≡ held s h i X
  pub shared : x.shared ≡ held s h i S
  pub sleep : is_away (phase s h i) ≡ true → sleep_of x.sleep ≡ last_sleep s h i

-- Each of the first n seats has the calls that it ended, with those before the base.
abbrev pub AreCalled : ℕ → Base → List Entry → List Seat → Type 0
AreCalled n b h seats = (i : ℕ) → i < n → (slice_index_or seats i no_holds).calls ≡ calls_of b h i
