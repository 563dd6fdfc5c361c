-- What is kept of the answers to acts, besides the core's history.
use Rattle.std.specs.Prelude.{◌≡◌, ◌≢◌, ℕ, Result, Err}
use Rattle.driver.specs.Below.{Act, Do, Trim, CoreView, IsStepped, IsTrimmed, Fault, OutOfMemory, Answer, Step, ended}
use Rattle.driver.specs.ReplayText.{Told, answer_line, entries_of, told_more, trim_line}

-- the line of an answer was added
abbrev pub IsAnswerTold : Told → ℕ → Result Answer Fault → Told → Type 0
IsAnswerTold told i r told' = told' ≡ told_more told (ended (answer_line told.count i r)) (entries_of r)

abbrev pub IsTrimTold : Told → Result ℕ Fault → Told → Type 0
IsTrimTold told r told' = told' ≡ told_more told (ended (trim_line r)) 0

-- a step was answered, and not by OutOfMemory, and its line was kept
abbrev pub IsStepLogged : CoreView → Told → ℕ → Step → CoreView → Told → Type 0
IsStepLogged old told i step new told' =
    (r : Result Answer Fault) × IsStepped old i step r new × (r ≢ Err OutOfMemory) × IsAnswerTold told i r told'

-- a trim was answered, and its line was kept
abbrev pub IsTrimLogged : CoreView → Told → CoreView → Told → Type 0
IsTrimLogged old told new told' = (r : Result ℕ Fault) × IsTrimmed old r new × IsTrimTold told r told'

abbrev pub IsLogged : CoreView → Told → Act → CoreView → Told → Type 0
IsLogged old told (Do i step) new told' = IsStepLogged old told i step new told'
IsLogged old told Trim new told' = IsTrimLogged old told new told'
