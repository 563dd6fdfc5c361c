-- Which waiters were told that they could go. The marks are kept apart from the history: a step that returns
-- Sleep changes them, and makes no entry.
use Rattle.std.specs.Prelude.{◌≡◌, ℕ, ◌==◌, Bool, true, false, ◌&&◌, ◌||◌, not, if◌then◌else◌, List, [], ◌∷◌, Option, Some, None, Result, Ok, Err}
use Rattle.history.specs.Types.{Arrival, Entry, Word, Lapse, Granted, Left, Back, Fault, Answer, Recorded, Sleep, Step}
use Rattle.history.specs.Answers.{answer}
use Rattle.history.specs.Could.{is_seat}
use Rattle.history.specs.Line.{line, place_of}
use Rattle.history.specs.Naming.{ready}
use Rattle.history.specs.Start.{Start}

abbrev pub is_lapse : Word → Bool
is_lapse Lapse = true
is_lapse _ = false

abbrev pub is_placed : Option Arrival → Bool
is_placed None = false
is_placed (Some a) = true

-- nobody is marked
abbrev pub unmarked : ℕ → Bool
unmarked i = false

-- The marks after an answer. The waiter that an entry names is marked. So is a seat that lapses, for it looks
-- once without being named. A mark is cleared when its seat leaves the queue, or when its seat's step returns
-- Sleep.
abbrev pub marks_after : Start → List Entry → ℕ → Result Answer Fault → (ℕ → Bool) → ℕ → Bool
marks_after s h i (Ok (Recorded e who)) marks j =
    (marks j || is_seat who j || (is_lapse e.word && (e.seat == j))) &&
    is_placed (place_of j (line s (e ∷ h)))
marks_after s h i (Ok Sleep) marks j = marks j && not (j == i)
marks_after s h i (Err fault) marks j = marks j

-- the marks after a list of steps
abbrev pub marks : Start → List Entry → (ℕ → Bool) → List (ℕ × Step) → ℕ → Bool
marks s h told [] = told
marks s h told (first ∷ steps) =
    let now = answer s h first.0 first.1 in
    marks s now.1 (marks_after s h first.0 now.0 told) steps

-- the head of the queue is marked if it could go
abbrev pub AreTold : Start → List Entry → (ℕ → Bool) → Type 0
AreTold s h marks = (i : ℕ) → ready s h ≡ Some i → marks i ≡ true

-- only waiters in the queue are marked
abbrev pub StandInLine : Start → List Entry → (ℕ → Bool) → Type 0
StandInLine s h marks = (i : ℕ) → marks i ≡ true → is_placed (place_of i (line s h)) ≡ true

-- Marks that can be right after a history.
pub record AreRight (s : Start) (h : List Entry) (marks : ℕ → Bool) : Type 0 where
  pub stand : StandInLine s h marks
  pub told : AreTold s h marks

-- The marks after a recorded entry, by what it changes. It sets the mark of the waiter that it names. Its own
-- seat's mark is set by a lapse, and cleared when the seat leaves the queue. All other marks stay.
abbrev pub own_mark : Word → Bool → Bool
own_mark Lapse marked = true
own_mark Granted marked = false
own_mark Left marked = false
own_mark Back marked = false
own_mark _ marked = marked

abbrev pub remarked : Entry → Option ℕ → (ℕ → Bool) → ℕ → Bool
remarked e who marks j = is_seat who j || (if e.seat == j then own_mark e.word (marks j) else marks j)
