-- That the cancelled nodes right before a seat's were freed.
use Rattle.std.specs.Prelude.{ℕ}
use Rattle.frame.specs.Below.{Answer, Recorded, Sleep}

-- They were freed, if there were any. What it means stays hidden. So only a function that calls `tidy_before` can meet
-- a contract that promises it.
pub WasTidied : ℕ → Type 0
WasTidied seat = Unit {0}

-- for `tidy_before` alone
pub tidied : (seat : ℕ) → WasTidied seat
unfolding WasTidied
tidied seat = tt

-- before a seat slept on, they were freed
abbrev pub HasTidied : ℕ → Answer → Type 0
HasTidied seat (Recorded e named) = Unit {0}
HasTidied seat Sleep = WasTidied seat
