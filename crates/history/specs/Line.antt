-- The wait queue: who joined it, what ended each wait, and who still waits.
use Rattle.std.specs.Prelude.{ℕ, ◌==◌, nat_le, Bool, true, false, ◌&&◌, if◌then◌else◌, List, [], ◌∷◌, ◌++◌, map, filter, length, take, Option, Some, None}
use Rattle.history.specs.Types.{Arrival, Entry, Mode, X, Word, Queued, Lapse, Signal, SignalAll}
use Rattle.history.specs.Entry.{ends_arrival}
use Rattle.history.specs.Sleepers.{sleepers}
use Rattle.history.specs.Start.{Start}

-- a waiter that comes back from a condition asks for X and 1
abbrev pub coming_back : ℕ → Arrival
coming_back i = record { seat = i; mode = X; n = 1; back = true }

-- who joins the queue by an entry after a history: a queued acquire, the signalled waiters, a lapsed waiter
abbrev pub arrivals_by : Start → Word → Entry → List Entry → List Arrival
arrivals_by s Queued e h = record { seat = e.seat; mode = e.mode; n = e.n; back = false } ∷ []
arrivals_by s Signal e h = map coming_back (take e.n (sleepers s h e.at))
arrivals_by s SignalAll e h = map coming_back (sleepers s h e.at)
arrivals_by s Lapse e h = coming_back e.seat ∷ []
arrivals_by s _ e h = []

-- An arrival, and the number of the entry by which it came.
pub record Arrived : Type 0 where
  pub place : ℕ
  pub who : Arrival

abbrev pub arrived_at : ℕ → Arrival → Arrived
arrived_at place who = record { place = place; who = who }

-- all arrivals ever, in order; the waiters of the start came before any entry
abbrev pub arrivals : Start → List Entry → List Arrived
arrivals s [] = map (arrived_at 0) s.line
arrivals s (e ∷ h) = arrivals s h ++ map (arrived_at (length h)) (arrivals_by s e.word e h)

-- An entry that ended a seat's wait: its number and its word.
pub record Ending : Type 0 where
  pub place : ℕ
  pub word : Word

-- the ending found so far, or else this one if it is one
abbrev pub first_ending : Option Ending → Bool → Ending → Option Ending
first_ending (Some x) b y = Some x
first_ending None b y = if b then Some y else None

-- the first entry, from a number on, by which a seat left the queue
abbrev pub ending : List Entry → ℕ → ℕ → Option Ending
ending [] i from = None
ending (e ∷ h) i from =
    first_ending (ending h i from) ((ends_arrival e.word && (e.seat == i)) && nat_le from (length h))
    (record { place = length h; word = e.word })

abbrev pub is_open : Option Ending → Bool
is_open None = true
is_open (Some x) = false

-- whether an arrival still waits
abbrev pub stands : List Entry → Arrived → Bool
stands h a = is_open (ending h a.who.seat a.place)

-- the queue: the arrivals that haven't ended, in their order
abbrev pub line : Start → List Entry → List Arrival
line s h = map (λ a. a.who) (filter (stands h) (arrivals s h))

abbrev pub first_of : List Arrival → Option Arrival
first_of [] = None
first_of (a ∷ rest) = Some a

abbrev pub mode_of : Option Arrival → Option Mode
mode_of None = None
mode_of (Some a) = Some a.mode

-- the mode that the head of the queue asks for
abbrev pub first_mode : Start → List Entry → Option Mode
first_mode s h = mode_of (first_of (line s h))

-- what a seat in the queue asks for
abbrev pub place_of : ℕ → List Arrival → Option Arrival
place_of i [] = None
place_of i (a ∷ rest) = if a.seat == i then Some a else place_of i rest
