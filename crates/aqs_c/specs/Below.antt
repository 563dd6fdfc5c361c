-- What aqs_c cites of the crates below, passed on from one place: names of deciding, history, history_text,
-- monitor, permit and word_lock. Declares nothing.
unfoldable pub use Rattle.word_lock.specs.Point.{Before, Agrees}
pub use Rattle.deciding.specs.Balance.{available, all_asleep}
pub use Rattle.frame.specs.AtOnce.{entry_at_once}
pub use Rattle.history.specs.declared.entry.End.{End}
pub use Rattle.history.specs.declared.entry.Entry.{Entry}
pub use Rattle.history.specs.declared.entry.Mode.{Mode}
pub use Rattle.history.specs.declared.entry.Mode.TheVariants.{X, S}
pub use Rattle.history.specs.declared.entry.Word.{Word}
pub use Rattle.history.specs.declared.fault.Fault.{Fault}
pub use Rattle.history.specs.declared.fault.Fault.TheVariants.{OutOfMemory}
pub use Rattle.history.specs.declared.header.Header.{Header}
pub use Rattle.history.specs.declared.header.Object.{Object}
pub use Rattle.history.specs.declared.header.Object.TheVariants.{Lock, ReadWrite, Semaphore, Latch}
pub use Rattle.history.specs.declared.header.Policy.{Policy}
pub use Rattle.history.specs.declared.header.Policy.TheVariants.{Fair, NonFair, Strict}
pub use Rattle.history.specs.declared.step.Answer.{Answer}
pub use Rattle.history.specs.declared.step.Answer.TheVariants.{Recorded, Sleep}
pub use Rattle.history.specs.declared.step.Step.{Step}
pub use Rattle.history.specs.Base.{Base}
pub use Rattle.history.specs.Counts.{count, counts, owner}
pub use Rattle.history.specs.Entries.{HistoryView}
pub use Rattle.history.specs.Fault.{fault_number}
pub use Rattle.history.specs.Header.{IsInRange}
pub use Rattle.history.specs.Line.{line}
pub use Rattle.history.specs.Phase.{waits}
pub use Rattle.history_text.specs.Pieces.{history_text}
pub use Rattle.monitor.specs.declared.how.How.{How}
pub use Rattle.monitor.specs.declared.how.How.TheVariants.{Plain, Interruptible, Timed}
pub use Rattle.monitor.specs.declared.machine.Next.{Next}
pub use Rattle.monitor.specs.declared.machine.Next.TheVariants.{Ends}
pub use Rattle.monitor.specs.declared.machine.Request.{Request}
pub use Rattle.monitor.specs.declared.machine.Request.TheVariants.{Acquire, AwaitOn}
pub use Rattle.monitor.specs.declared.machine.Turn.{Turn}
pub use Rattle.monitor.specs.declared.machine.Waiting.{Waiting}
pub use Rattle.monitor.specs.declared.step.Now.{Now}
pub use Rattle.monitor.specs.declared.step.Now.TheVariants.{Done, Busy}
pub use Rattle.monitor.specs.declared.waiting.Limits.{Limits}
pub use Rattle.monitor.specs.Lawful.{start_at, blank}
pub use Rattle.monitor.specs.Machine.{IsBegun, LeavesWaiting, limits_at, IsGoneOn}
pub use Rattle.monitor.specs.Observing.{IsQuietLook}
pub use Rattle.monitor.specs.Shown.{Shown, IsSound, opening_passes}
pub use Rattle.monitor.specs.Stepping.{IsSame, IsStep, IsStepNow, IsTrim}
pub use Rattle.monitor.specs.Waits.{WaitsAs, Waits}
pub use Rattle.permit.specs.declared.parking.Woke.{Woke}
pub use Rattle.permit.specs.declared.parking.Woke.TheVariants.{Permit, Deadline, Interrupted}
pub use Rattle.word_lock.specs.Ticket.{LockId}
