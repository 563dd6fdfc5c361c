-- What the proofs of frame cite of its own definitions, passed on from one place: seats, hooks and acts, what
-- the core's parts stand for, and what a step leaves. Declares nothing.
pub use Rattle.frame.specs.declared.acts.Act.{Act}
pub use Rattle.frame.specs.declared.acts.Act.TheVariants.{Do, Trim}
pub use Rattle.frame.specs.declared.acts.Done.{Done}
pub use Rattle.frame.specs.declared.acts.Done.TheVariants.{Answered, Trimmed}
pub use Rattle.frame.specs.declared.seat.Seat.{Seat}
pub use Rattle.frame.specs.Acts.{as_answered, as_trimmed, IsDone, AreDone, NoneLacks, Outcome, behind_one, outcome, marks_behind, IsOutcome}
pub use Rattle.frame.specs.AtOnce.{Gives, entry_at_once, IsAtOnce}
pub use Rattle.frame.specs.Core.{CoreView, with_history, start_of, counts_of, marks_of, IsTold, IsInStep, IsNext, IsAdded, unmarked_at, trimmed, IsTrimmed, IsStepped}
pub use Rattle.frame.specs.Effects.{counts_after, IsTakeable, IsAllowed}
pub use Rattle.frame.specs.Hooks.{line_mode, AreAlike, opening_counts, let_go_answer, hold_limit, IsRestorable, drain_answer_of, level_by, level_of}
pub use Rattle.frame.specs.Owners.{holds_of, owner_in, is_owner_in, is_owned, Owns}
pub use Rattle.frame.specs.Seat.{no_holds, sleep_behind, seat_after, seat_behind, with_mark, telling, told_in, marks_in, IsSeat, AreCalled}
