-- Worked examples of bars, each computed from the definitions.
use Rattle.std.specs.Prelude.{◌≡◌, ℕ, List, [], ◌∷◌, pos, refl}
use Rattle.drawing.specs.Below.{Entry, X, S, Word, Header, Lock, Semaphore, Fair, opening, plain}
use Rattle.history.specs.declared.entry.End.TheVariants as end
use Rattle.history.specs.declared.entry.Word.TheVariants as word
use Rattle.drawing.specs.Prelude.{Bar, Kind, Exclusive, Shared, InLine, Asleep, bars}

abbrev bar : ℕ → Kind → ℕ → ℕ → ℕ → Bar
bar i kind first last holds = record { seat = i; kind = kind; first = first; last = last; holds = holds }

abbrev at_condition : ℕ → Word → ℕ → Entry
at_condition i w n = record { seat = i; word = w; mode = X; n = n; at = 0; end = end.None }

abbrev lock : Header
lock = record { object = Lock Fair; seats = 2; conditions = 1; cap = 64 }

abbrev semaphore : Header
semaphore = record { object = Semaphore Fair (pos 5); seats = 2; conditions = 0; cap = 64 }

-- A lock is handed over: the bar of who waits ends before the entry by which it is granted.
abbrev handed_over : List Entry
handed_over =
    plain 1 word.Granted X 1 ∷ plain 0 word.Gave X 1 ∷ plain 1 word.Queued X 1 ∷ plain 0 word.Got X 1 ∷ []

handed_over_bars : bars (opening lock) 0 handed_over
    ≡ bar 0 Exclusive 0 1 1 ∷ bar 1 InLine 1 2 1 ∷ bar 1 Exclusive 3 3 1 ∷ []
handed_over_bars = refl

-- From the third entry on: the bars that are cut by the choice begin with it.
handed_over_from : bars (opening lock) 2 handed_over ≡ bar 1 InLine 2 2 1 ∷ bar 1 Exclusive 3 3 1 ∷ []
handed_over_from = refl

-- Two holds are given up to sleep, a signal moves the sleeper to the line, and it comes back with both.
abbrev slept : List Entry
slept =
    record { seat = 0; word = word.Back; mode = X; n = 2; at = 0; end = end.Signalled } ∷
    plain 1 word.Gave X 1 ∷ at_condition 1 word.Signal 1 ∷ plain 1 word.Got X 1 ∷
    at_condition 0 word.Await 2 ∷
    plain 0 word.Got X 1 ∷ plain 0 word.Got X 1 ∷ []

slept_bars : bars (opening lock) 0 slept
    ≡ bar 0 Exclusive 0 0 1 ∷ bar 0 Exclusive 1 1 2 ∷ bar 0 (Asleep 0) 2 3 1 ∷ bar 1 Exclusive 3 4 1 ∷
    bar 0 InLine 4 5 1 ∷ bar 0 Exclusive 6 6 2 ∷ []
slept_bars = refl

-- Permits are shared holds, and one who holds some may wait for more.
abbrev permits : List Entry
permits =
    plain 0 word.Gave S 2 ∷ plain 0 word.Queued S 4 ∷ plain 1 word.Got S 2 ∷ plain 0 word.Got S 3 ∷ []

permits_bars : bars (opening semaphore) 0 permits
    ≡ bar 0 Shared 0 2 3 ∷ bar 0 Shared 3 3 1 ∷ bar 0 InLine 2 3 1 ∷ bar 1 Shared 1 3 2 ∷ []
permits_bars = refl
