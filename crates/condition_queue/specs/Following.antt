-- When wait queue and conditions represent a history, how an entry changes them, and what it requires of
-- them.
use Rattle.std.specs.Prelude.{◌≡◌, ◌≤◌, ◌<◌, ◌+◌, ◌*◌, ◌^◌, ℕ, ◌==◌, not, true, false, List, [], ◌∷◌, ◌++◌, if◌then◌else◌, filter, map, take, length, Option, Some, None}
use Rattle.condition_queue.specs.Below.{Line, Arrival, Entry, Word, Queued, Granted, Left, Await, Lapse, Signal, SignalAll, Back, coming_back, line, place_of, has, sleepers, Start, at_most_one}
use Rattle.condition_queue.specs.declared.sleeper.Sleeper.{Sleeper}
use Rattle.condition_queue.specs.Sleepers.{Sleepers, asleep_on}

-- At most as many have joined the queue as n entries can add: each adds its seat, or all waiters of a
-- condition.
abbrev pub JoinedBy : ℕ → Line → Type 0
JoinedBy n queue = queue.joined ≤ 257 * n

-- The queue and the conditions' waiters are those of the history.
pub record Keeps (s : Start) (h : List Entry) (queue : Line) (waiters : Sleepers) : Type 0 where
  pub line : queue.arrivals ≡ line s h
  pub places : queue.seats ≡ s.header.seats
  pub sleepers : (c : ℕ) → asleep_on waiters c ≡ sleepers s h c
  pub conditions : waiters.conditions ≡ s.header.conditions
  pub beds : waiters.seats ≡ s.header.seats

abbrev pub line_without : ℕ → List Arrival → List Arrival
line_without i arrivals = filter (λ a. not (i == a.seat)) arrivals

-- the queue after an entry, from the queue and the waiters of the entry's condition
abbrev pub line_behind : Word → Entry → List Arrival → List ℕ → List Arrival
line_behind Queued e arrivals seats =
    arrivals ++ record { seat = e.seat; mode = e.mode; n = e.n; back = false } ∷ []
line_behind Granted e arrivals seats = line_without e.seat arrivals
line_behind Left e arrivals seats = line_without e.seat arrivals
line_behind Back e arrivals seats = line_without e.seat arrivals
line_behind Lapse e arrivals seats = arrivals ++ coming_back e.seat ∷ []
line_behind Signal e arrivals seats = arrivals ++ map coming_back (take e.n seats)
line_behind SignalAll e arrivals seats = arrivals ++ map coming_back seats
line_behind _ e arrivals seats = arrivals

-- what a seat waits on after an entry, from the waiters of the entry's condition and from what it waited on
abbrev pub sleeper_behind : Word → Entry → List ℕ → ℕ → Option Sleeper → Option Sleeper
sleeper_behind Await e seats i was = if e.seat == i then Some (record { condition = e.at; holds = e.n })
    else was
sleeper_behind Lapse e seats i was = if e.seat == i then None else was
sleeper_behind Signal e seats i was = if has i (take e.n seats) then None else was
sleeper_behind SignalAll e seats i was = if has i seats then None else was
sleeper_behind _ e seats i was = was

-- a seat that may join the queue
pub record MayJoin (e : Entry) (queue : Line) : Type 0 where
  pub seat : e.seat < queue.seats
  pub absent : place_of e.seat queue.arrivals ≡ None

-- a seat that may begin to wait on a condition
pub record MaySleep (e : Entry) (waiters : Sleepers) : Type 0 where
  pub condition : e.at < waiters.conditions
  pub seat : e.seat < waiters.seats
  pub awake : (c : ℕ) → has e.seat (asleep_on waiters c) ≡ false

-- a waiter of a condition that may join the queue
pub record MayLapse (e : Entry) (queue : Line) (waiters : Sleepers) : Type 0 where
  pub join : MayJoin e queue
  pub asleep : has e.seat (asleep_on waiters e.at) ≡ true

-- n waiters of a condition that may be moved
pub record MayMove (n : ℕ) (e : Entry) (queue : Line) (waiters : Sleepers) : Type 0 where
  pub condition : e.at < waiters.conditions
  pub apart : (i : ℕ) → has i (asleep_on waiters e.at) ≡ true → place_of i queue.arrivals ≡ None
  pub number : e.n ≡ n

abbrev pub IsMovableBy : Word → Entry → Line → Sleepers → Type 0
IsMovableBy Queued e queue waiters = MayJoin e queue
IsMovableBy Await e queue waiters = MaySleep e waiters
IsMovableBy Lapse e queue waiters = MayLapse e queue waiters
IsMovableBy Signal e queue waiters = MayMove (at_most_one (length (asleep_on waiters e.at))) e queue waiters
IsMovableBy SignalAll e queue waiters = MayMove (length (asleep_on waiters e.at)) e queue waiters
IsMovableBy _ e queue waiters = Unit {0}

-- what an entry requires of the waiters
pub record IsMovable (e : Entry) (queue : Line) (waiters : Sleepers) : Type 0 where
  pub by_word : IsMovableBy e.word e queue waiters
  pub seats : waiters.seats ≤ queue.seats
  pub few : length (asleep_on waiters e.at) ≤ 65536
  pub countable : queue.joined + 65536 < 2 ^ 64
