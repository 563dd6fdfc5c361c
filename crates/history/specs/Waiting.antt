-- Who waits, in the queue or on a condition, and that a seat waits in one place.
use Rattle.std.specs.Prelude.{◌≡◌, ℕ, zero, suc, ◌+◌, ◌≤◌, ◌==◌, if◌then◌else◌, List, [], ◌∷◌, ◌++◌, map, None}
use Rattle.history.specs.Types.{Arrival, Entry}
use Rattle.history.specs.Line.{line, place_of}
use Rattle.history.specs.Sleepers.{sleepers}
use Rattle.history.specs.Start.{Start}

-- how often a seat is in a list
abbrev pub times : ℕ → List ℕ → ℕ
times i [] = 0
times i (j ∷ seats) = times i seats + (if j == i then 1 else 0)

-- each seat is in a queue at most once
abbrev pub StandOnce : List Arrival → Type 0
StandOnce [] = Unit {0}
StandOnce (a ∷ rest) = (place_of a.seat rest ≡ None) × StandOnce rest

-- the seats of a queue
abbrev pub seats_of : List Arrival → List ℕ
seats_of arrivals = map (λ a. a.seat) arrivals

-- who waits on one of the first n conditions
abbrev pub asleep : ℕ → Start → List Entry → List ℕ
asleep zero s h = []
asleep (suc c) s h = asleep c s h ++ sleepers s h c

-- the seats that wait: those in the queue, and those on conditions
abbrev pub waiting : Start → List Entry → List ℕ
waiting s h = seats_of (line s h) ++ asleep s.header.conditions s h

-- a seat waits at most once, in the queue or on a condition
abbrev pub IsOneWait : Start → List Entry → Type 0
IsOneWait s h = (i : ℕ) → times i (waiting s h) ≤ 1
