-- What monitor_fronts cites of the crates below, passed on from one place: names of history, monitor, permit
-- and word_lock. Declares nothing.
pub use Rattle.history.specs.declared.entry.End.{End}
pub use Rattle.history.specs.declared.entry.Entry.{Entry}
pub use Rattle.history.specs.declared.entry.Mode.{Mode}
pub use Rattle.history.specs.declared.entry.Mode.TheVariants.{X, S}
pub use Rattle.history.specs.declared.entry.Word.{Word}
pub use Rattle.history.specs.declared.fault.Fault.{Fault}
pub use Rattle.history.specs.declared.fault.Fault.TheVariants.{HistoryFull, TrimFull}
pub use Rattle.history.specs.declared.header.Header.{Header}
pub use Rattle.history.specs.declared.header.Object.{Object}
pub use Rattle.history.specs.declared.header.Object.TheVariants.{Lock, ReadWrite, Semaphore, Latch}
pub use Rattle.history.specs.declared.limits.TheConstants.{MOST_AMOUNT}
pub use Rattle.history.specs.declared.point.Point.{Point}
pub use Rattle.history.specs.declared.step.Answer.TheVariants.{Recorded}
pub use Rattle.history.specs.declared.step.Step.{Step}
pub use Rattle.history.specs.declared.step.Step.TheVariants.{Acquire, Try, TryFair, EntryInterrupt, Give, Await, Signal, SignalAll, Drain}
pub use Rattle.history.specs.Awaiting.{signalled, lapsed, back_from, lapse_from}
pub use Rattle.history.specs.Base.{Base, based}
pub use Rattle.history.specs.Could.{is_seat, could_of, could, limit, is_reentrant, line_blocks, held_back, try_held_back}
pub use Rattle.history.specs.Counts.{holds_after, held, free_after, free, counted_after, counted, count, Counts, counts, owner}
pub use Rattle.history.specs.Entry.{same_mode}
pub use Rattle.history.specs.Faults.{lacks_mode, is_bad_number}
pub use Rattle.history.specs.Line.{first_mode}
pub use Rattle.history.specs.Object.{is_lock, is_semaphore, is_latch, opening_count, in_holds}
pub use Rattle.history.specs.Phase.{Phase, Idle, phase, suits}
pub use Rattle.history.specs.Sleepers.{sleepers}
pub use Rattle.history.specs.Start.{Sleep, Start, opening}
pub use Rattle.history.specs.Steps.{plain, gave, awaits, signals, at_most_one, at_least_none, ended, phase_entry, entry_for}
pub use Rattle.monitor.specs.declared.how.How.{How}
pub use Rattle.monitor.specs.declared.how.How.TheVariants.{Plain, Interruptible, Timed}
pub use Rattle.monitor.specs.declared.machine.Request.{Request}
pub use Rattle.monitor.specs.Acquire.{has_time, is_timed, first_step, EndsAtOnce, AtOnce, IsAtOnce, IsEndFor, IsAcquire}
pub use Rattle.monitor.specs.AwaitOn.{IsAwaitRefused, LapsesAndReturns, ReturnsSignalled, IsAwait}
pub use Rattle.monitor.specs.Lawful.{view_of, start_at, IsLawful}
pub use Rattle.monitor.specs.Load.{holds_of, free_of}
pub use Rattle.monitor.specs.Machine.{IsCall}
pub use Rattle.monitor.specs.Shown.{Shown, IsSound, opening_pass, opening_passes}
pub use Rattle.monitor.specs.Stepping.{IsSame, IsStep, IsEntered, IsTrim}
pub use Rattle.monitor.specs.Waits.{asking, with_entry, IsMade}
pub use Rattle.permit.specs.Deed.{Deed, showed}
unfoldable pub use Rattle.word_lock.specs.Point.{header_of, Before}
pub use Rattle.word_lock.specs.Ticket.{LockId}
