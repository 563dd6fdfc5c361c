-- Which waiter an entry names: the head of the queue, if it could go and couldn't before.
use Rattle.std.specs.Prelude.{ℕ, ◌==◌, ◌&&◌, not, if◌then◌else◌, List, ◌∷◌, Option, Some, None}
use Rattle.history.specs.Types.{Arrival, Entry}
use Rattle.history.specs.Could.{could, is_seat}
use Rattle.history.specs.Counts.{Counts, counts}
use Rattle.history.specs.Line.{line, first_of}
use Rattle.history.specs.Start.{Start}

abbrev pub ready_by : Counts → Option Arrival → Option ℕ
ready_by k None = None
ready_by k (Some a) = if could k a.seat a.mode a.n then Some a.seat else None

-- the seat of the head of the queue, if it could acquire what it asks for
abbrev pub ready : Start → List Entry → Option ℕ
ready s h = ready_by (counts s h) (first_of (line s h))

-- the waiter that is ready now is named, unless it was ready before or made the entry itself
abbrev pub named_by : Option ℕ → Option ℕ → ℕ → Option ℕ
named_by before None i = None
named_by before (Some j) i = if not (j == i) && not (is_seat before j) then Some j else None

abbrev pub named : Start → List Entry → Entry → Option ℕ
named s h e = named_by (ready s h) (ready s (e ∷ h)) e.seat
