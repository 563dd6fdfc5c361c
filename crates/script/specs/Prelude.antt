-- What the proofs of script cite of its own definitions, passed on from one place: calls, actions and faults
-- of a script, and which JSON value says which script. Declares nothing.
pub use Rattle.script.specs.declared.action.Action.{Action}
pub use Rattle.script.specs.declared.action.Action.TheVariants.{Acquire, TryAcquire, Release, AwaitOn, Signal, SignalAll, Drain, Trim}
pub use Rattle.script.specs.declared.call.Call.{Call}
pub use Rattle.script.specs.declared.call.Call.TheVariants.{On, Interrupt}
pub use Rattle.script.specs.declared.fault.ScriptFault.{ScriptFault}
pub use Rattle.script.specs.declared.fault.ScriptFault.TheVariants.{NotJson, BadTop, BadObject, BadThread, BadCall, OutOfMemory}
pub use Rattle.script.specs.declared.limits.TheConstants.{MOST_MILLISECONDS}
pub use Rattle.script.specs.CallText.{action_words, HasAmounts, Spells}
pub use Rattle.script.specs.Name.{is_name_byte, IsName}
pub use Rattle.script.specs.Reading.{Says, SaysNoObject, SaysNoCall, HasNoRounds, HasBadCall, IsThreadsFault}
pub use Rattle.script.specs.Saying.{Say, object_value, SaysObject, SaysCall, SaysWorker}
pub use Rattle.script.specs.Script.{WorkerView, Named, ScriptView, named, IsCall, IsWorker, IsObject, IsScript}
