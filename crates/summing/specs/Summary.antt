-- The summary of a history.
use Rattle.std.specs.Prelude.{ℕ, zero, suc, nat_lt, if◌then◌else◌, List, [], ◌∷◌, ◌++◌, length}
use Rattle.summing.specs.Below.{Entry, X, S, held, ends_call, Start}
use Rattle.summing.specs.declared.peak.Peak.{Peak}
use Rattle.summing.specs.declared.row.Row.{Row}
use Rattle.summing.specs.declared.tally.ConditionTally.{ConditionTally}
use Rattle.summing.specs.Counting.{count, is_broken_off, is_grant, is_queued, is_take, of_seat, times_out}
use Rattle.summing.specs.Passing.{passed}
use Rattle.summing.specs.Peak.{peak}
use Rattle.summing.specs.Tallies.{any, condition_tally}
use Rattle.summing.specs.Waits.{longest}

-- what is told of a seat
abbrev pub row : Start → List Entry → ℕ → Row
row s h i =
    record {
      seat = i;
      calls = count (of_seat i (λ e. ends_call e.word)) h;
      took = count (of_seat i (λ e. is_take e.word)) h;
      queued = count (of_seat i (λ e. is_queued e.word)) h;
      longest = longest s h i;
      passed = passed s h i;
      timeouts = count (of_seat i times_out) h;
      interrupts = count (of_seat i is_broken_off) h;
      exclusive = held s h i X;
      shared = held s h i S;
    }

-- the row of a seat, if it made an entry
abbrev pub row_if : Start → List Entry → ℕ → List Row
row_if s h i = if nat_lt 0 (count (of_seat i any) h) then row s h i ∷ [] else []

-- the rows of those of the first n seats that made an entry
abbrev pub rows_below : Start → List Entry → ℕ → List Row
rows_below s h zero = []
rows_below s h (suc i) = rows_below s h i ++ row_if s h i

-- what is told of the first n conditions
abbrev pub conditions_below : List Entry → ℕ → List ConditionTally
conditions_below h zero = []
conditions_below h (suc c) = conditions_below h c ++ condition_tally h c ∷ []

-- A summary, with lists in place of memory.
pub record SummaryView : Type 0 where
  pub entries : ℕ
  pub grants : ℕ
  pub peak : Peak
  pub rows : List Row
  pub conditions : List ConditionTally

abbrev pub summary : Start → List Entry → SummaryView
summary s h =
    record {
      entries = length h;
      grants = count (λ e. is_grant e.word) h;
      peak = peak s h;
      rows = rows_below s h s.header.seats;
      conditions = conditions_below h s.header.conditions;
    }
