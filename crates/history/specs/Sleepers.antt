-- Who waits on a condition, and what such a waiter gave up.
use Rattle.std.specs.Prelude.{ℕ, zero, suc, ◌==◌, Bool, false, ◌||◌, not, if◌then◌else◌, List, [], ◌∷◌, ◌++◌, filter, drop}
use Rattle.history.specs.Types.{Entry, Word, Await, Lapse, Signal, SignalAll}
use Rattle.history.specs.declared.entry.End.TheVariants as end
use Rattle.history.specs.Start.{Start, Sleep}

-- a list of seats without one seat
abbrev pub without : ℕ → List ℕ → List ℕ
without i seats = filter (λ j. not (j == i)) seats

abbrev pub has : ℕ → List ℕ → Bool
has i [] = false
has i (j ∷ seats) = (j == i) || has i seats

-- the waiters of a condition after an entry on it: an await adds one, a signal of n removes the n longest
-- waiting
abbrev pub sleepers_after : Word → ℕ → ℕ → List ℕ → List ℕ
sleepers_after Await i n seats = seats ++ i ∷ []
sleepers_after Signal i n seats = drop n seats
sleepers_after SignalAll i n seats = []
sleepers_after Lapse i n seats = without i seats
sleepers_after _ i n seats = seats

-- the seats that wait on a condition, the longest waiting first
abbrev pub sleepers : Start → List Entry → ℕ → List ℕ
sleepers s [] c = s.sleepers c
sleepers s (e ∷ h) c = if e.at == c then sleepers_after e.word e.seat e.n (sleepers s h c) else sleepers s h c

-- whether a seat waits on one of the first n conditions
abbrev pub sleeps_below : ℕ → Start → List Entry → ℕ → Bool
sleeps_below zero s h i = false
sleeps_below (suc c) s h i = has i (sleepers s h c) || sleeps_below c s h i

-- an await saves the condition and the holds; a seat that lapses comes back with the end of its lapse
abbrev pub sleep_after : Word → Entry → Sleep → Sleep
sleep_after Await e was = record { condition = e.at; holds = e.n; how = end.Signalled }
sleep_after Lapse e was = record { condition = was.condition; holds = was.holds; how = e.end }
sleep_after _ e was = was

-- the last sleep of a seat
abbrev pub last_sleep : Start → List Entry → ℕ → Sleep
last_sleep s [] i = s.last_sleep i
last_sleep s (e ∷ h) i = if e.seat == i then sleep_after e.word e (last_sleep s h i) else last_sleep s h i
