-- What a list of steps returns, and the state after it.
use Rattle.std.specs.Prelude.{◌≡◌, ◌≢◌, ℕ, List, [], ◌∷◌, Result, Err}
use Rattle.std.specs.List.{AllByRecursion}
use Rattle.frame.specs.Below.{Fault, OutOfMemory, Answer, Step, results, marks}
use Rattle.frame.specs.Core.{CoreView, marks_of, start_of, IsAnswered, IsTold}

-- each step is answered in turn, on the state after the one before
abbrev pub AreAnswered : CoreView → List (ℕ × Step) → List (Result Answer Fault) → CoreView → Type 0
AreAnswered old [] [] new = new ≡ old
AreAnswered old (s ∷ steps) (r ∷ answers) new =
    (mid : CoreView) × IsAnswered old s.0 s.1 r mid × IsTold old s.0 r mid × AreAnswered mid steps answers new
AreAnswered old [] (r ∷ answers) new = ⊥
AreAnswered old (s ∷ steps) [] new = ⊥

-- no step lacked memory
abbrev pub NoneLacksMemory : List (Result Answer Fault) → Type 0
NoneLacksMemory answers = AllByRecursion (λ r. r ≢ Err OutOfMemory) answers

-- the answers, the history and the marks are those of the definitions
pub record AreResults (old : CoreView) (steps : List (ℕ × Step)) (answers : List (Result Answer Fault))
    (new : CoreView) : Type 0 where
  pub answers_are : answers ≡ (results (start_of old) old.entries steps).0
  pub entries_are : new.entries ≡ (results (start_of old) old.entries steps).1
  pub header_is : new.header ≡ old.header
  pub base_is : new.base ≡ old.base
  pub told_are : marks_of new ≡ marks (start_of old) old.entries (marks_of old) steps
