-- What is counted for a seat, and for a condition.
use Rattle.std.specs.Prelude.{ℕ, ◌+◌, Bool, true, if◌then◌else◌, List, Option, Some, None}
use Rattle.summing.specs.Below.{Entry, ends_call, Start}
use Rattle.summing.specs.declared.tally.ConditionTally.{ConditionTally}
use Rattle.summing.specs.declared.tally.SeatTally.{SeatTally}
use Rattle.summing.specs.declared.tally.Wait.{Wait}
use Rattle.summing.specs.Counting.{count, is_await, is_broken_off, is_queued, is_signal, is_take, more, moves_nobody, of_seat, on_condition, times_out}
use Rattle.summing.specs.Waits.{begun, ended, longer, longest_of, wait_from}

-- any entry
abbrev pub any : Entry → Bool
any e = true

abbrev pub tally : Start → List Entry → ℕ → SeatTally
tally s h i =
    record {
      entries = count (of_seat i any) h;
      calls = count (of_seat i (λ e. ends_call e.word)) h;
      took = count (of_seat i (λ e. is_take e.word)) h;
      queued = count (of_seat i (λ e. is_queued e.word)) h;
      timeouts = count (of_seat i times_out) h;
      interrupts = count (of_seat i is_broken_off) h;
      begun = begun s h i;
      longest = longest_of (ended s h i);
    }

-- a seat that made no entry
abbrev pub no_tally : Option ℕ → SeatTally
no_tally begun =
    record {
      entries = 0;
      calls = 0;
      took = 0;
      queued = 0;
      timeouts = 0;
      interrupts = 0;
      begun = begun;
      longest = None;
    }

abbrev pub longest_with : Option Wait → Option Wait → Option Wait
longest_with None old = old
longest_with (Some w) old = longer w old

-- the tally of a seat with one more entry of it, which has this number
abbrev pub tally_after : Entry → ℕ → SeatTally → SeatTally
tally_after e number was =
    record {
      entries = was.entries + 1;
      calls = more was.calls (ends_call e.word);
      took = more was.took (is_take e.word);
      queued = more was.queued (is_queued e.word);
      timeouts = more was.timeouts (times_out e);
      interrupts = more was.interrupts (is_broken_off e);
      begun = if is_queued e.word then Some number else None;
      longest = longest_with (wait_from was.begun number) was.longest;
    }

abbrev pub condition_tally : List Entry → ℕ → ConditionTally
condition_tally h c =
    record {
      awaits = count (on_condition c (λ e. is_await e.word)) h;
      signals = count (on_condition c (λ e. is_signal e.word)) h;
      empty = count (on_condition c moves_nobody) h;
    }

abbrev pub no_condition_tally : ConditionTally
no_condition_tally = record { awaits = 0; signals = 0; empty = 0 }

abbrev pub condition_after : Entry → ConditionTally → ConditionTally
condition_after e was =
    record {
      awaits = more was.awaits (is_await e.word);
      signals = more was.signals (is_signal e.word);
      empty = more was.empty (moves_nobody e);
    }
