-- When the queue was longest.
use Rattle.std.specs.Prelude.{ℕ, nat_lt, if◌then◌else◌, List, [], ◌∷◌, length, Some, None}
use Rattle.summing.specs.Below.{Entry, line, Start}
use Rattle.summing.specs.declared.peak.Peak.{Peak}

-- the longest so far, or the one after this entry if it is longer
abbrev pub higher : ℕ → ℕ → Peak → Peak
higher seats number was =
    if nat_lt was.seats seats then record { seats = seats; place = Some number } else was

-- the greatest length of the queue, and the number of the entry after which it was first that long; no number,
-- if it was so before the first entry
abbrev pub peak : Start → List Entry → Peak
peak s [] = record { seats = length (line s []); place = None }
peak s (e ∷ h) = higher (length (line s (e ∷ h))) (length h) (peak s h)
