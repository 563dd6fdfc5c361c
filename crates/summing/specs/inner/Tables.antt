-- How an entry changes the tables of seats and of conditions.
use Rattle.std.specs.Prelude.{◌<◌, ◌≤◌, ◌^◌, ℕ, nat_lt, not, ◌&&◌, if◌then◌else◌, List, length, slice_index_or, slice_set, IfSome}
use Rattle.history.specs.declared.entry.Entry.{Entry}
use Rattle.summing.specs.declared.tally.ConditionTally.{ConditionTally}
use Rattle.summing.specs.declared.tally.SeatTally.{SeatTally}
use Rattle.summing.specs.Counting.{is_await, is_signal}
use Rattle.summing.specs.Tallies.{condition_after, no_condition_tally}

-- a tally to which one more may be added
pub record IsFewCondition (t : ConditionTally) : Type 0 where
  pub awaits : t.awaits < 2 ^ 32
  pub signals : t.signals < 2 ^ 32
  pub empty : t.empty < 2 ^ 32

pub record IsFewTally (number : ℕ) (t : SeatTally) : Type 0 where
  pub entries : t.entries < 2 ^ 32
  pub calls : t.calls < 2 ^ 32
  pub took : t.took < 2 ^ 32
  pub queued : t.queued < 2 ^ 32
  pub timeouts : t.timeouts < 2 ^ 32
  pub interrupts : t.interrupts < 2 ^ 32
  pub begun : IfSome t.begun (λ place. place ≤ number)

-- the table of conditions after an entry
abbrev pub condition_noted : Entry → List ConditionTally → List ConditionTally
condition_noted e table =
    if (not (is_await e.word) && not (is_signal e.word)) then table
    else if nat_lt e.at (length table) then
    slice_set table e.at (condition_after e (slice_index_or table e.at no_condition_tally))
    else table
