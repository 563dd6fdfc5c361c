-- Who is passed by a thread that barges.
use Rattle.std.specs.Prelude.{ℕ, ◌==◌, nat_lt, Bool, ◌&&◌, ◌||◌, not, List, [], ◌∷◌, is_some}
use Rattle.summing.specs.Below.{Entry, X, held, is_lock, Start}
use Rattle.summing.specs.Counting.{is_take, more}
use Rattle.summing.specs.Waits.{begun}

-- a lock is acquired again, by a seat that holds it
abbrev pub takes_again : Start → Entry → List Entry → Bool
takes_again s e h = is_lock s.header.object && (nat_lt 0 (held s h e.seat X) || nat_lt 0 (held s h e.seat e.mode))

-- an entry that acquires at once, and not again
abbrev pub takes_anew : Start → Entry → List Entry → Bool
takes_anew s e h = is_take e.word && not (takes_again s e h)

-- how many entries of a history acquire at once, and not again
abbrev pub taken_anew : Start → List Entry → ℕ
taken_anew s [] = 0
taken_anew s (e ∷ h) = more (taken_anew s h) (takes_anew s e h)

-- a seat waits while another one acquires at once
abbrev pub is_passed : Start → Entry → List Entry → ℕ → Bool
is_passed s e h i = is_some (begun s h i) && (not (e.seat == i) && takes_anew s e h)

-- how often a seat was passed
abbrev pub passed : Start → List Entry → ℕ → ℕ
passed s [] i = 0
passed s (e ∷ h) i = more (passed s h i) (is_passed s e h i)
