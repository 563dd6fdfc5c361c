-- What an auditor knows about the entries so far.
use Rattle.std.specs.Prelude.{◌≡◌, ◌<◌, ◌+◌, ◌^◌, ℕ, List, length, Option, None, Some}
use Rattle.audit.specs.Below.{Entry, IsLegal, Start}
use Rattle.audit.specs.declared.auditor.Auditor.{Auditor}
use Rattle.audit.specs.declared.ledger.Ledger.{Ledger}
use Rattle.audit.specs.Ledger.{LedgerStand}
use Rattle.audit.specs.Verdict.{IsFirstWrong}

-- they are legal and the ledger represents them, or this is the first illegal one
abbrev pub IsSoFar : Start → List Entry → Ledger → Option ℕ → Type 0
IsSoFar s h ledger None = LedgerStand s h ledger
IsSoFar s h ledger (Some number) = IsFirstWrong s h number × (IsLegal s h → ⊥)

-- these entries after a start were judged
pub record HasJudged (s : Start) (h : List Entry) (a : Auditor) : Type 0 where
  pub count : a.count ≡ length h
  pub so_far : IsSoFar s h a.ledger a.wrong

-- one that has judged some entries, after which one more of one of the seats may come
pub record CanFollow (a : Auditor) (e : Entry) : Type 0 where
  pub start : Start
  pub entries : List Entry
  pub judged : HasJudged start entries a
  pub seat : e.seat < start.header.seats
  pub room : length entries + 1 < 2 ^ 32

-- one that has judged some entries
pub record IsAuditor (a : Auditor) : Type 0 where
  pub start : Start
  pub entries : List Entry
  pub judged : HasJudged start entries a
  pub room : length entries < 2 ^ 32
