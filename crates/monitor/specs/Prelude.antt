-- What the proofs of monitor cite of its own definitions, passed on from one place: limits, requests, turns
-- and stages of a call, what its steps leave, and what a load has. Declares nothing.
pub use Rattle.monitor.specs.declared.how.How.{How}
pub use Rattle.monitor.specs.declared.how.How.TheVariants.{Plain, Interruptible, Timed}
pub use Rattle.monitor.specs.declared.machine.Next.TheVariants.{Ends, Waits}
pub use Rattle.monitor.specs.declared.machine.Request.{Request}
pub use Rattle.monitor.specs.declared.machine.Request.TheVariants.{Acquire, AwaitOn}
pub use Rattle.monitor.specs.declared.machine.Turn.{Turn}
pub use Rattle.monitor.specs.declared.machine.Waiting.{Waiting}
pub use Rattle.monitor.specs.declared.step.Now.{Now}
pub use Rattle.monitor.specs.declared.step.Now.TheVariants.{Done, Busy}
pub use Rattle.monitor.specs.declared.waiting.Limits.{Limits}
pub use Rattle.monitor.specs.Acquire.{is_interruptible, has_time, is_timed, ShowedTo, IsUntil, LimitsFor, first_step, WasInterrupted, WasNotInterrupted, EndsAtOnce, EndsUnrecorded, AtOnce, IsEndFor, IsAcquire}
pub use Rattle.monitor.specs.AwaitOn.{stage_by, first_stage, MayLapseFor, LapsesAndReturns, ReturnsSignalled, IsAwait}
pub use Rattle.monitor.specs.Calling.{CanCall, Called, CalledQuietly}
pub use Rattle.monitor.specs.Closing.{left_by, IsWithin, shares, passes_of, IsMissing, IsBased}
pub use Rattle.monitor.specs.Interrupts.{tells_interrupt}
pub use Rattle.monitor.specs.Lawful.{point_of, Beside, view_of, start_at, blank, IsLawful, IsLawfulCore}
pub use Rattle.monitor.specs.Load.{holds_of, holds_by, holds_in, free_of, opened_counts, IsOneOwner, given_by, IsFreeAfter, LetsGo, IsTurn, IsFree, Brings, Moves, Trades, is_refused, was_refused}
pub use Rattle.monitor.specs.Machine.{IsCall, step_by, AsksAwait, begins_wait, limits_from, stage_for, begun, next_by, first_turn, IsBegun, LeavesWaiting, limits_at, step_within, step_at, at_stage, next_behind, later_turn, step_of_waiting, IsGoneOn}
pub use Rattle.monitor.specs.Observing.{IsLook, IsQuietLook}
pub use Rattle.monitor.specs.Shown.{Shown, shown, IsSound, IsPass, opening_pass, opening_passes}
pub use Rattle.monitor.specs.Stepping.{IsSame, IsFailed, IsFaultOf, IsStep, answer_of, IsStepNow, IsUnparked, IsEntered, IsTrim, in_all, IsTrimInAll}
pub use Rattle.monitor.specs.Waits.{asking, StandsFor, with_entry, IsMade, IsLast, Cause, in_line, on_condition, on_way_back, WaitsAs, IsAllowed, AfterPark, no_limits, ComesOf, IsNotLost, HasGivenUp, EndComesOf, stage_asleep, is_lapse}
