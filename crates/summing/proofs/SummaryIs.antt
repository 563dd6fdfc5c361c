-- The summary that is made of the numbers and tables.
use Rattle.std.proofs.Common.{◌≡◌, ℕ, List, length}
use Rattle.summing.specs.Below.{Entry, Start}
use Rattle.summing.specs.Prelude.{Peak, ConditionTally, count, is_grant, peak, SummaryView, conditions_below, rows_below, summary}
use Rattle.summing.specs.declared.row.Row.{Row}

abbrev pub view_of : ℕ → ℕ → Peak → List Row → List ConditionTally → SummaryView
view_of entries grants high rows conditions =
    record { entries = entries; grants = grants; peak = high; rows = rows; conditions = conditions }

pub summary_is : (s : Start) (h : List Entry) (entries grants : ℕ) (high : Peak) (rows : List Row)
    (conditions : List ConditionTally) → entries ≡ length h → grants ≡ count (λ e. is_grant e.word) h →
    high ≡ peak s h → rows ≡ rows_below s h s.header.seats →
    conditions ≡ conditions_below h s.header.conditions →
    view_of entries grants high rows conditions ≡ summary s h
summary_is s h entries grants high rows conditions a b c d e = cc
