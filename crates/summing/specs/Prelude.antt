-- What the proofs of summing cite of its own definitions, passed on from one place: rows and tallies, what
-- the definitions count of a history, and its summary. Declares nothing.
pub use Rattle.summing.specs.declared.passing.Passing.{Passing}
pub use Rattle.summing.specs.declared.peak.Peak.{Peak}
pub use Rattle.summing.specs.declared.tally.ConditionTally.{ConditionTally}
pub use Rattle.summing.specs.declared.tally.SeatTally.{SeatTally}
pub use Rattle.summing.specs.Counting.{more, count, is_take, is_queued, is_grant, is_await, is_signal, times_out, is_broken_off, of_seat, on_condition, moves_nobody}
pub use Rattle.summing.specs.Passing.{taken_anew, passed}
pub use Rattle.summing.specs.Peak.{higher, peak}
pub use Rattle.summing.specs.Summary.{rows_below, conditions_below, SummaryView, summary}
pub use Rattle.summing.specs.Summing.{no_passing, IsPassing, HasSummed}
pub use Rattle.summing.specs.Tallies.{any, tally, no_tally, longest_with, tally_after, condition_tally, no_condition_tally, condition_after}
pub use Rattle.summing.specs.Waits.{begun, under_way, with_wait, ended, longest_of}
