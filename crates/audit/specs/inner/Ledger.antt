-- A ledger whose entries are added up.
use Rattle.std.specs.Prelude.{◌<◌, ◌^◌, List, length}
use Rattle.audit.specs.Below.{Entry, Start}
use Rattle.audit.specs.declared.ledger.Ledger.{Ledger}
use Rattle.audit.specs.Ledger.{LedgerStand}

-- a ledger of some entries
pub record IsLedger (l : Ledger) : Type 0 where
  pub start : Start
  pub front : List Entry
  pub stand : LedgerStand start front l
  pub room : length front < 2 ^ 32
