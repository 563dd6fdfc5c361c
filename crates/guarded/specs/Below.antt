-- What guarded cites of the crates below, passed on from one place: names of deciding, frame, history,
-- monitor, monitor_fronts, permit and word_lock. Declares nothing.
pub use Rattle.counting.specs.Semaphore.{IsOpened, semaphore_of}
pub use Rattle.deciding.specs.declared.balance.Balance.{Balance}
pub use Rattle.deciding.specs.Balance.{balance, available}
pub use Rattle.frame.specs.Core.{header_of}
pub use Rattle.frame.specs.Hooks.{AreAlike}
pub use Rattle.history.specs.declared.entry.Entry.{Entry}
pub use Rattle.history.specs.declared.entry.Mode.{Mode}
pub use Rattle.history.specs.declared.entry.Mode.TheVariants.{X, S}
pub use Rattle.history.specs.declared.fault.Fault.{Fault}
pub use Rattle.history.specs.declared.fault.Fault.TheVariants.{OutOfMemory, Interrupted}
pub use Rattle.history.specs.declared.header.Object.{Object}
pub use Rattle.history.specs.declared.header.Object.TheVariants.{Semaphore, Lock, ReadWrite}
pub use Rattle.history.specs.declared.header.Policy.{Policy}
pub use Rattle.history.specs.declared.header.Policy.TheVariants.{NonFair}
pub use Rattle.history.specs.declared.step.Step.{Step}
pub use Rattle.history.specs.declared.step.Step.TheVariants.{Try, Give, Drain}
pub use Rattle.history.specs.Counts.{held, free, Counts, counts, owner}
pub use Rattle.history.specs.Entries.{start_on}
pub use Rattle.history.specs.Header.{IsInRange}
pub use Rattle.history.specs.Line.{line, place_of}
pub use Rattle.history.specs.Marks.{is_placed}
pub use Rattle.history.specs.Naming.{ready}
pub use Rattle.history.specs.Object.{is_lock, is_semaphore}
pub use Rattle.history.specs.Sleepers.{sleepers}
pub use Rattle.history.specs.Start.{Start, opening}
pub use Rattle.monitor.specs.declared.closing.CloseFault.TheVariants.{MissingPass}
pub use Rattle.monitor.specs.declared.how.How.{How}
pub use Rattle.monitor.specs.declared.how.How.TheVariants.{Interruptible, Timed, Plain}
pub use Rattle.monitor.specs.declared.machine.Request.TheVariants.{Acquire, AwaitOn}
pub use Rattle.monitor.specs.Acquire.{IsAcquire, is_timed, moment_after}
pub use Rattle.monitor.specs.Calling.{CanCall, Called, CalledQuietly}
pub use Rattle.monitor.specs.Closing.{Closes, IsMissing}
pub use Rattle.monitor.specs.Lawful.{start_at, blank}
pub use Rattle.monitor.specs.Load.{holds_of, free_of, opened_counts, given_by, LetsGo, IsTurn, IsFree, Moves, was_refused}
pub use Rattle.monitor.specs.Observing.{IsLook}
pub use Rattle.monitor.specs.Shown.{Shown, IsSound, opening_passes}
pub use Rattle.monitor.specs.Stepping.{IsSame, IsEntered, IsTrim}
pub use Rattle.monitor.specs.contracts.pass.Pass.{the_row}
pub use Rattle.monitor_fronts.specs.declared.room.WhenFull.{WhenFull}
pub use Rattle.monitor_fronts.specs.declared.room.WhenFull.TheVariants.{Trim}
pub use Rattle.monitor_fronts.specs.FrontCalls.{AreLeft, LastsUntil}
pub use Rattle.monitor_fronts.specs.Holding.{holds, with_yes, Adds, Takes}
pub use Rattle.monitor_fronts.specs.Permits.{if_ok, DrainsFree}
pub use Rattle.monitor_fronts.specs.Returned.{whether_of, is_done, done_of, number_of}
pub use Rattle.monitor_fronts.specs.Room.{InRoom, IsEnteredIn, IsCallIn, signal_step}
pub use Rattle.permit.specs.Deed.{Deed, showed}
pub use Rattle.word_lock.specs.Ticket.{LockId}
