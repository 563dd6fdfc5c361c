-- Those who wait in the queue for a first acquire, but for one.
use Rattle.std.specs.Prelude.{◌≡◌, ◌<◌, ◌+◌, ◌^◌, ℕ, zero, suc, ◌==◌, ◌&&◌, not, List, is_some, length}
use Rattle.drawing.specs.Below.{Entry, LedgerStand, Start, begun, more}
use Rattle.audit.specs.declared.ledger.Ledger.{Ledger}
use Rattle.drawing.specs.Barging.{askers}

-- how many of the first n seats wait so, beside one seat
abbrev pub others : Start → List Entry → ℕ → ℕ → ℕ
others s h seat zero = 0
others s h seat (suc i) = more (others s h seat i) (is_some (begun s h i) && not (seat == i))

-- a ledger, how many seats wait so, and one of the seats
pub record IsCounted (l : Ledger) (n i : ℕ) : Type 0 where
  pub start : Start
  pub entries : List Entry
  pub stand : LedgerStand start entries l
  pub count : n ≡ askers start entries start.header.seats
  pub seat : i < start.header.seats
  pub room : length entries + 1 < 2 ^ 32
