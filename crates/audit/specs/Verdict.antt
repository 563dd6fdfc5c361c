-- The first entries of a history, and its first illegal entry.
use Rattle.std.specs.Prelude.{◌≡◌, ◌<◌, ℕ, ◌+◌, ◌-◌, List, length, drop}
use Rattle.audit.specs.declared.verdict.Judgement.{Judgement}
use Rattle.audit.specs.declared.verdict.Judgement.TheVariants.{Legal, NotLegal}
use Rattle.audit.specs.declared.verdict.Verdict.{Verdict}
use Rattle.audit.specs.declared.verdict.Verdict.TheVariants as verdict
use Rattle.audit.specs.Totals.{totals_of}
use Rattle.audit.specs.Below.{Entry, IsLegal, Start}

-- the first n entries, which are the last in the list
abbrev pub front : ℕ → List Entry → List Entry
front n h = drop (length h - n) h

-- the entries before this one are legal, and with this one they aren't
pub record IsFirstWrong (s : Start) (h : List Entry) (no : ℕ) : Type 0 where
  pub stands : no < length h
  pub legal : IsLegal s (front no h)
  pub wrong : IsLegal s (front (no + 1) h) → ⊥

-- the history is legal and these are its totals, or this is its first illegal entry
abbrev pub IsJudgement : Start → List Entry → Judgement → Type 0
IsJudgement s h (Legal totals) = IsLegal s h × (totals ≡ totals_of s h)
IsJudgement s h (NotLegal number) = IsFirstWrong s h number × (IsLegal s h → ⊥)

abbrev pub verdict_of : Judgement → Verdict
verdict_of (Legal totals) = verdict.Legal
verdict_of (NotLegal number) = verdict.NotLegal number
