-- What a list of steps and trims returns, and the state after it.
use Rattle.std.specs.Prelude.{◌≡◌, ◌≢◌, ◌<◌, ℕ, Bool, ◌+◌, nat_lt, if◌then◌else◌, List, [], ◌∷◌, length, Result, Ok, Err}
use Rattle.std.specs.List.{AllByRecursion}
use Rattle.frame.specs.Below.{Entry, Fault, OutOfMemory, TrimFull, Answer, answer, Base, based, folded, most_folded, marks_after}
use Rattle.frame.specs.declared.acts.Act.{Act}
use Rattle.frame.specs.declared.acts.Act.TheVariants.{Do, Trim}
use Rattle.frame.specs.declared.acts.Done.{Done}
use Rattle.frame.specs.declared.acts.Done.TheVariants.{Answered, Trimmed}
use Rattle.frame.specs.Core.{CoreView, marks_of, IsAnswered, IsTold, IsTrimmed}

-- a step is of one of the first n seats
abbrev pub IsOfSeats : ℕ → Act → Type 0
IsOfSeats seats (Do i step) = i < seats
IsOfSeats seats Trim = Unit {0}

-- the result of a step as that of an act, and the number of entries that a trim folded
abbrev pub as_answered : Result Answer Fault → Result Done Fault
as_answered (Ok answer) = Ok (Answered answer)
as_answered (Err fault) = Err fault

abbrev pub as_trimmed : Result ℕ Fault → Result Done Fault
as_trimmed (Ok count) = Ok (Trimmed count)
as_trimmed (Err fault) = Err fault

abbrev pub IsDone : CoreView → Act → Result Done Fault → CoreView → Type 0
IsDone old (Do i step) r new =
    (answer : Result Answer Fault) × (r ≡ as_answered answer) × IsAnswered old i step answer new
    × IsTold old i answer new
IsDone old Trim r new = (count : Result ℕ Fault) × (r ≡ as_trimmed count) × IsTrimmed old count new

-- each act is performed in turn, on the state after the one before
abbrev pub AreDone : CoreView → List Act → List (Result Done Fault) → CoreView → Type 0
AreDone old [] [] new = new ≡ old
AreDone old (act ∷ acts) (r ∷ rest) new = (mid : CoreView) × IsDone old act r mid × AreDone mid acts rest new
AreDone old [] (r ∷ rest) new = ⊥
AreDone old (act ∷ acts) [] new = ⊥

-- no act lacked memory
abbrev pub NoneLacks : List (Result Done Fault) → Type 0
NoneLacks done = AllByRecursion (λ r. r ≢ Err OutOfMemory) done

-- The base and the list after some acts, and what the acts returned.
pub record Outcome : Type 0 where
  pub done : List (Result Done Fault)
  pub base : Base
  pub entries : List Entry

abbrev pub behind_one : Result Done Fault → Outcome → Outcome
behind_one r rest = record { done = r ∷ rest.done; base = rest.base; entries = rest.entries }

-- by the definitions: each step is answered from the base, and a trim folds the list if it may
abbrev pub outcome : Base → List Entry → List Act → Outcome
outcome b h [] = record { done = []; base = b; entries = h }
outcome b h (Do i step ∷ acts) =
    let now = answer (based b) h i step in
    behind_one (as_answered now.0) (outcome b now.1 acts)
outcome b h (Trim ∷ acts) =
    if nat_lt most_folded (b.entries + length h) then behind_one (Err TrimFull) (outcome b h acts)
    else behind_one (Ok (Trimmed (length h))) (outcome (folded b h) [] acts)

-- the marks after these acts; a trim leaves them as they were
abbrev pub marks_behind : Base → List Entry → (ℕ → Bool) → List Act → ℕ → Bool
marks_behind b h told [] = told
marks_behind b h told (Do i step ∷ acts) =
    let now = answer (based b) h i step in
    marks_behind b now.1 (marks_after (based b) h i now.0 told) acts
marks_behind b h told (Trim ∷ acts) =
    if nat_lt most_folded (b.entries + length h) then marks_behind b h told acts
    else marks_behind (folded b h) [] told acts

-- results, base, history and marks are those of the definitions
pub record IsOutcome (old : CoreView) (acts : List Act) (done : List (Result Done Fault))
    (new : CoreView) : Type 0 where
  pub done_are : done ≡ (outcome old.base old.entries acts).done
  pub base_is : new.base ≡ (outcome old.base old.entries acts).base
  pub entries_are : new.entries ≡ (outcome old.base old.entries acts).entries
  pub header_is : new.header ≡ old.header
  pub told_are : marks_of new ≡ marks_behind old.base old.entries (marks_of old) acts
