-- What the audit's queue and waiters represent.
use Rattle.std.specs.Prelude.{◌≡◌, ◌+◌, ℕ, List, length, slice_index_or}
use Rattle.audit.specs.Below.{Entry, last_sleep, Start, JoinedBy, Keeps, sleep_of, LastSleep}
use Rattle.history.specs.declared.entry.End.TheVariants as end
use Rattle.audit.specs.declared.waiting.Waiting.{Waiting}

-- what a seat saved that never waited on a condition
abbrev pub never_slept : LastSleep
never_slept = record { condition = 0; holds = 0; how = end.None }

pub record WaitingStand (s : Start) (h : List Entry) (w : Waiting) : Type 0 where
  pub kept : Keeps s h w.line w.asleep
  pub joins : JoinedBy (length h + 1) w.line
  pub seats : length w.last_sleep.items ≡ s.header.seats
  pub slept : (i : ℕ) → sleep_of (slice_index_or w.last_sleep.items i never_slept) ≡ last_sleep s h i
