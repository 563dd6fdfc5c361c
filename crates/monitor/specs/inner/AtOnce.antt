-- What a step of the fast way leaves.
use Rattle.std.specs.Prelude.{ℕ, Option, Some, None, Result, Ok}
use Rattle.monitor.specs.Below.{Answer, Fault, Recorded, Step, entry_at_once}

-- what a step answered: if it was done at once, its entry and the seat that it named, and else this
abbrev pub reply_of : ℕ → Step → Option (Option ℕ) → Result Answer Fault → Result Answer Fault
reply_of i step (Some name) r = Ok (Recorded (entry_at_once i step) name)
reply_of i step None r = r
