-- The curve of free permits, or of a latch's count.
use Rattle.std.specs.Prelude.{ℕ, nat_lt, if◌then◌else◌, List, [], ◌∷◌, ◌++◌, length, Option, Some, None, ℤ, pos}
use Rattle.drawing.specs.Below.{Entry, Object, Lock, ReadWrite, Semaphore, Latch, count, free, Start}

-- the number after a history whose curve is drawn; locks have none
abbrev pub amount_of : Object → Start → List Entry → Option ℤ
amount_of (Lock policy) s h = None
amount_of (ReadWrite policy) s h = None
amount_of (Semaphore policy permits) s h = Some (free s h)
amount_of (Latch opening) s h = Some (pos (count s h))

abbrev pub point : Option ℤ → List ℤ
point None = []
point (Some z) = z ∷ []

-- the number after each entry, from entry `from` on, in order
abbrev pub curve : Start → ℕ → List Entry → List ℤ
curve s from [] = []
curve s from (e ∷ h) =
    curve s from h
    ++ (if nat_lt (length h) from then [] else point (amount_of s.header.object s (e ∷ h)))
