-- What the audit's ledger represents: the first entries of a legal history.
use Rattle.std.specs.Prelude.{◌≡◌, ◌<◌, ◌+◌, ◌^◌, ℕ, List, length, Ok, Some}
use Rattle.audit.specs.Below.{Entry, Step, Start, entry_for, AreAmounts, IsHistory}
use Rattle.audit.specs.declared.ledger.Ledger.{Ledger}
use Rattle.audit.specs.Holds.{HoldsStand}
use Rattle.audit.specs.Waiting.{WaitingStand}

pub record LedgerStand (s : Start) (h : List Entry) (l : Ledger) : Type 0 where
  pub header : l.header ≡ s.header
  pub holding : HoldsStand s h l.holds
  pub waits : WaitingStand s h l.waiting
  pub numbers : AreAmounts s h l.amounts
  pub past : IsHistory s h

-- a ledger of some entries, after which one more may come, and one of its seats
pub record HasSeat (l : Ledger) (i : ℕ) : Type 0 where
  pub start : Start
  pub front : List Entry
  pub stand : LedgerStand start front l
  pub seat : i < start.header.seats
  pub room : length front + 1 < 2 ^ 32

-- whether some step of its seat makes an entry after these entries
abbrev pub IsNext : Start → List Entry → Entry → Type 0
IsNext s h e = (step : Step) × (entry_for s h e.seat step ≡ Ok (Some e))
