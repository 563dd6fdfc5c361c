-- A history's list, as its callers see it.
use Rattle.std.specs.Prelude.{◌≡◌, ℕ, ◌+◌, if◌then◌else◌, List, [], ◌∷◌, Option, Some, None}
use Rattle.history.specs.Types.{Entry, Header}
use Rattle.history.specs.Base.{Base, based, opening_base}
use Rattle.history.specs.Entry.{ends_call}
use Rattle.history.specs.GoodBase.{IsGood}
use Rattle.history.specs.Start.{Start}

pub record HistoryView : Type 0 where
  pub cap : ℕ  -- the greatest number of entries
  pub base : Option Base  -- what the folded entries left, if it began on a base
  pub entries : List Entry  -- the newest first
  pub owed : ℕ  -- for how many entries more room stays reserved
  pub places : ℕ  -- how many entries the reserved memory holds

-- the entries among these that end a call
abbrev pub ended_calls : List Entry → ℕ
ended_calls [] = 0
ended_calls (e ∷ h) = ended_calls h + (if ends_call e.word then 1 else 0)

-- the number of calls that ended before a base, and the number with those of the entries
abbrev pub calls_before : Option Base → ℕ
calls_before None = 0
calls_before (Some b) = (based b).calls

abbrev pub all_calls : HistoryView → ℕ
all_calls v = calls_before v.base + ended_calls v.entries

-- what a history begins from: its base, or the base of the object as it is opened
abbrev pub or_opening : Header → Option Base → Base
or_opening k None = opening_base k
or_opening k (Some b) = b

abbrev pub base_on : Header → HistoryView → Base
base_on k v = or_opening k v.base

abbrev pub start_on : Header → HistoryView → Start
start_on k v = based (base_on k v)

-- the history has no base, or a good one with this header
abbrev pub IsBasedWell : Header → Option Base → Type 0
IsBasedWell k None = Unit {0}
IsBasedWell k (Some b) = (b.header ≡ k) × IsGood b
