-- Acquires that pass a waiter.
use Rattle.std.specs.Prelude.{ℕ, zero, suc, nat_lt, Bool, List, is_some}
use Rattle.drawing.specs.Below.{Entry, Start, begun, more, is_passed}

-- how many of the first n seats wait in the queue for a first acquire
abbrev pub askers : Start → List Entry → ℕ → ℕ
askers s h zero = 0
askers s h (suc i) = more (askers s h i) (is_some (begun s h i))

-- how many of the first n seats an entry passes, as a summary counts it
abbrev pub passes : Start → Entry → List Entry → ℕ → ℕ
passes s e h zero = 0
passes s e h (suc i) = more (passes s e h i) (is_passed s e h i)

-- an entry barges if it passes a seat
abbrev pub barges : Start → Entry → List Entry → Bool
barges s e h = nat_lt 0 (passes s e h s.header.seats)
