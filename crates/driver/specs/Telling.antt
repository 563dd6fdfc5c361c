-- What is told of a history text.
use Rattle.std.specs.Prelude.{◌≡◌, ℕ, Bool, List, Option, Result, reverse}
use Rattle.driver.specs.Below.{Verdict, Legal, NotLegal, IsFirstWrong, Entry, Base, based, IsLegal, IsHistoryText, history_form, StreamFault, IsReadOut, Streams}
use Rattle.driver.specs.AuditText.{audit_text}
use Rattle.driver.specs.Streaming.{Streamed}
use Rattle.driver.specs.declared.notation.Notation.TheVariants.{Lines, Json}
use Rattle.driver.specs.declared.telling.Telling.{Telling}
use Rattle.driver.specs.declared.telling.Telling.TheVariants.{Audit, Draw, Page, Explain, Summary}

-- the history is legal from its base on, or this is its first illegal entry, counted from the base
abbrev pub IsVerdict : Base → List Entry → Verdict → Type 0
IsVerdict b entries Legal = IsLegal (based b) entries
IsVerdict b entries (NotLegal number) = IsFirstWrong (based b) entries number

-- What is told of a history on a base, with its entries newest first: the audit text. What is only shown to a
-- person is some text.
abbrev pub Tells : Telling → Base → List Entry → Verdict → List ℕ → Type 0
Tells (Audit Lines) b entries verdict told = told ≡ audit_text b entries verdict
Tells (Audit Json) b entries verdict told = Unit {0}
Tells (Draw choice) b entries verdict told = Unit {0}
Tells (Page choice) b entries verdict told = Unit {0}
Tells (Explain at notation) b entries verdict told = Unit {0}
Tells (Summary notation) b entries verdict told = Unit {0}

-- The text is the history text of a base and these entries, the newest first. The verdict on them is this
-- one, and this is told of them and written.
pub record IsToldOf (telling : Telling) (text : List ℕ) (verdict : Verdict) (Written : List ℕ → Type 0) :
    Type 0 where
  pub base : Base
  pub entries : List Entry
  pub told : List ℕ
  pub is : IsHistoryText text base (reverse entries)
  pub judged : IsVerdict base entries verdict
  pub tells : Tells telling base entries verdict told
  pub written : Written told

-- the audit text is written
abbrev pub Audited : List ℕ → Verdict → (List ℕ → Type 0) → Type 0
Audited = IsToldOf (Audit Lines)

-- what telling writes
abbrev pub WritesTold : Telling → Option (List ℕ) → Option (List ℕ) → Option (List ℕ) → Result Verdict StreamFault →
    Type 0
WritesTold telling = Streams history_form (IsToldOf telling)

-- how far a history is read to tell of it
abbrev pub HistoryReadOut : Option (List ℕ) → Result Verdict StreamFault → Option (List ℕ) → Type 0
HistoryReadOut = IsReadOut history_form

-- what telling leaves
abbrev pub TellsHistory : Telling → Option (List ℕ) → Option (List ℕ) → Result Verdict StreamFault →
    Option (List ℕ) → Option (List ℕ) → Bool → Bool → Type 0
TellsHistory telling = Streamed history_form (IsToldOf telling)
