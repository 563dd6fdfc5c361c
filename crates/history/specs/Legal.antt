-- Which histories are legal, and how many calls ended in one.
use Rattle.std.specs.Prelude.{◌≡◌, ◌<◌, ℕ, ◌+◌, if◌then◌else◌, List, [], ◌∷◌, Some, Ok}
use Rattle.history.specs.Types.{Entry, Step}
use Rattle.history.specs.Entry.{ends_call}
use Rattle.history.specs.Start.{Start}
use Rattle.history.specs.Steps.{entry_for}

-- each entry is the one that some step of its seat makes after the entries before it
abbrev pub IsLegal : Start → List Entry → Type 0
IsLegal s [] = Unit {0}
IsLegal s (e ∷ h) = ((step : Step) × (entry_for s h e.seat step ≡ Ok (Some e))) × IsLegal s h

-- the seat of each entry is one of the object's
abbrev pub AreSeated : Start → List Entry → Type 0
AreSeated s [] = Unit {0}
AreSeated s (e ∷ h) = (e.seat < s.header.seats) × AreSeated s h

-- the number of calls that ended
abbrev pub calls : Start → List Entry → ℕ
calls s [] = s.calls
calls s (e ∷ h) = calls s h + (if ends_call e.word then 1 else 0)
