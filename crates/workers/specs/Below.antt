-- What workers cites of the crates below, passed on from one place: names of audit, deciding, history,
-- monitor, permit, script and word_lock. Declares nothing.
pub use Rattle.audit.specs.declared.verdict.Judgement.{Judgement}
pub use Rattle.audit.specs.declared.verdict.Judgement.TheVariants.{Legal, NotLegal}
pub use Rattle.audit.specs.Totals.{totals_of}
pub use Rattle.deciding.specs.ObjectState.{IsHistory}
pub use Rattle.history.specs.declared.fault.Fault.{Fault}
pub use Rattle.history.specs.declared.header.Header.{Header}
pub use Rattle.history.specs.Entries.{HistoryView, base_on, start_on, IsBasedWell}
pub use Rattle.history.specs.Header.{IsInRange}
pub use Rattle.history.specs.Legal.{IsLegal, calls}
pub use Rattle.monitor.specs.Acquire.{IsAcquire}
pub use Rattle.monitor.specs.AwaitOn.{IsAwait}
pub use Rattle.monitor.specs.Closing.{left_by, IsWithin, shares, passes_of, IsBased}
pub use Rattle.monitor.specs.Lawful.{blank, IsLawful}
pub use Rattle.monitor.specs.Shown.{Shown, IsSound, opening_pass, opening_passes}
pub use Rattle.monitor.specs.Stepping.{IsSame, IsEntered, IsTrim}
pub use Rattle.permit.specs.Deed.{interrupted, IsDone}
pub use Rattle.script.specs.declared.action.Action.{Action}
pub use Rattle.script.specs.declared.action.Action.TheVariants.{Acquire, TryAcquire, Release, AwaitOn, Signal, SignalAll, Drain, Trim}
pub use Rattle.script.specs.declared.call.Call.{Call}
pub use Rattle.script.specs.declared.call.Call.TheVariants.{On, Interrupt}
pub use Rattle.script.specs.declared.limits.TheConstants.{MOST_THREADS, MOST_ROUNDS, MOST_CALLS}
pub use Rattle.script.specs.Script.{WorkerView, Named, ScriptView, IsCall, IsObject, IsScript}
pub use Rattle.word_lock.specs.Ticket.{LockId}
