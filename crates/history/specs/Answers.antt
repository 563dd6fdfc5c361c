-- The answer to a step and the history after it, and the same for a list of steps.
use Rattle.std.specs.Prelude.{ℕ, if◌then◌else◌, List, [], ◌∷◌, Option, Some, None, Result, Ok, Err}
use Rattle.history.specs.Types.{Entry, Fault, HistoryFull, Answer, Recorded, Sleep, Step}
use Rattle.history.specs.Naming.{named}
use Rattle.history.specs.Room.{has_room}
use Rattle.history.specs.Start.{Start}
use Rattle.history.specs.Steps.{entry_for}

-- an entry that has room is recorded, with the waiter that it names; without room nothing changes
abbrev pub recorded : Start → List Entry → Entry → Result Answer Fault × List Entry
recorded s h e = if has_room s h e then (Ok (Recorded e (named s h e)), e ∷ h) else (Err HistoryFull, h)

abbrev pub answer_by : Start → List Entry → Result (Option Entry) Fault → Result Answer Fault × List Entry
answer_by s h (Err fault) = (Err fault, h)
answer_by s h (Ok None) = (Ok Sleep, h)
answer_by s h (Ok (Some e)) = recorded s h e

-- the answer to a seat's step, and the history after it
abbrev pub answer : Start → List Entry → ℕ → Step → Result Answer Fault × List Entry
answer s h i step = answer_by s h (entry_for s h i step)

-- the answers to a list of steps, one after another, and the history after them
abbrev pub results : Start → List Entry → List (ℕ × Step) → List (Result Answer Fault) × List Entry
results s h [] = ([], h)
results s h (first ∷ steps) =
    let now = answer s h first.0 first.1 in
    let rest = results s now.1 steps in
    (now.0 ∷ rest.0, rest.1)
