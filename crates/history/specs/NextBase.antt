-- What one entry changes in a base, part by part. This is the fold of that entry alone. A fold of more
-- entries repeats it.
use Rattle.std.specs.Prelude.{ℕ, ◌+◌, ◌-◌, ◌==◌, Bool, false, ◌&&◌, not, if◌then◌else◌, List, [], ◌∷◌, ◌++◌, map, filter, take, drop, set}
use Rattle.history.specs.declared.base.SeatBase.{SeatBase}
use Rattle.history.specs.declared.base.Sleeper.{Sleeper}
use Rattle.history.specs.declared.base.LinePlace.{LinePlace}
use Rattle.history.specs.declared.entry.End.TheVariants as end
use Rattle.history.specs.Types.{Entry, X, S, Word, Queued, Await, Lapse, Signal, SignalAll, Counted, Object}
use Rattle.history.specs.Base.{Base, holds_of, or_awake, seat_of, sleep_on, sleepers_of, stands_from}
use Rattle.history.specs.Counts.{beyond, holds_after}
use Rattle.history.specs.Entry.{ends_arrival, ends_call, same_mode}
use Rattle.history.specs.Line.{coming_back}
use Rattle.history.specs.Object.{is_semaphore}
use Rattle.history.specs.Start.{awake}

-- the calls and holds of the entry's seat
abbrev pub seat_then : Object → Entry → SeatBase → SeatBase
seat_then o e has =
    record {
      calls = has.calls + (if ends_call e.word then 1 else 0);
      exclusive = if same_mode e.mode X then holds_after o e.word e.n has.exclusive else has.exclusive;
      shared = if same_mode e.mode S then holds_after o e.word e.n has.shared else has.shared;
    }

-- a latch's count
abbrev pub count_then : Word → ℕ → ℕ
count_then Counted n = n - 1
count_then _ n = n

-- whether a waiter stays in the queue
abbrev pub stays_there : Entry → LinePlace → Bool
stays_there e p = not (ends_arrival e.word && (e.seat == p.who.seat))

-- a waiter that was signalled on a condition
abbrev pub signalled_on : ℕ → Sleeper → LinePlace
signalled_on c x =
    record { who = coming_back x.seat; condition = c; holds = x.holds; how = end.Signalled }

-- who joins the queue, if xs are the waiters of the entry's condition
abbrev pub joins_from : Word → Entry → List Sleeper → List LinePlace
joins_from Queued e xs =
    stands_from (record { seat = e.seat; mode = e.mode; n = e.n; back = false }) awake ∷ []
joins_from Signal e xs = map (signalled_on e.at) (take e.n xs)
joins_from SignalAll e xs = map (signalled_on e.at) xs
joins_from Lapse e xs =
    record {
      who = coming_back e.seat;
      condition = e.at;
      holds = (or_awake (sleep_on e.at e.seat xs)).holds;
      how = e.end;
    }
    ∷ []
joins_from _ e xs = []

abbrev pub joins_line : Base → Word → Entry → List LinePlace
joins_line b w e = joins_from w e (sleepers_of b e.at)

-- the waiters of the entry's condition
abbrev pub sleepers_then : Word → Entry → List Sleeper → List Sleeper
sleepers_then Await e xs = xs ++ record { seat = e.seat; holds = e.n } ∷ []
sleepers_then Lapse e xs = filter (λ x. not (x.seat == e.seat)) xs
sleepers_then Signal e xs = drop e.n xs
sleepers_then SignalAll e xs = []
sleepers_then _ e xs = xs

abbrev pub next_base : Base → Entry → Base
next_base b e =
    record {
      header = b.header;
      entries = b.entries + 1;
      seats = set b.seats e.seat (seat_then b.header.object e (seat_of b e.seat));
      unheld = b.unheld + (if is_semaphore b.header.object then
          beyond e.word e.n (holds_of (seat_of b e.seat) e.mode) else 0);
      count = count_then e.word b.count;
      line = filter (stays_there e) b.line ++ joins_line b e.word e;
      sleepers = set b.sleepers e.at (sleepers_then e.word e (sleepers_of b e.at));
    }
