-- The types that the definitions beside this file speak of, with their variants, and the limits, passed on
-- from one place: arrivals, entries, steps, answers, faults and headers. Declares nothing.
pub use Rattle.history.specs.declared.arrival.Arrival.{Arrival}
pub use Rattle.history.specs.declared.entry.End.{End}
pub use Rattle.history.specs.declared.entry.Entry.{Entry}
pub use Rattle.history.specs.declared.entry.Mode.{Mode}
pub use Rattle.history.specs.declared.entry.Mode.TheVariants.{X, S}
pub use Rattle.history.specs.declared.entry.Word.{Word}
pub use Rattle.history.specs.declared.entry.Word.TheVariants.{Got, TryGot, Queued, Granted, Left, Gave, Await, Lapse, Signal, SignalAll, Back, Counted, Drained}
pub use Rattle.history.specs.declared.fault.Fault.{Fault}
pub use Rattle.history.specs.declared.fault.Fault.TheVariants.{NotOwner, TooManyHolds, TooManyPermits, Interrupted, HoldsRead, OutOfPhase, NoSuchCondition, BadAmount, WrongMode, HistoryFull, OutOfMemory, TrimFull}
pub use Rattle.history.specs.declared.header.Header.{Header}
pub use Rattle.history.specs.declared.header.Object.{Object}
pub use Rattle.history.specs.declared.header.Object.TheVariants.{Lock, ReadWrite, Semaphore, Latch}
pub use Rattle.history.specs.declared.header.Policy.{Policy}
pub use Rattle.history.specs.declared.header.Policy.TheVariants.{Fair, NonFair, Strict}
pub use Rattle.history.specs.declared.limits.TheConstants.{MOST_HOLDS, MOST_READ_WRITE_HOLDS, MOST_AMOUNT, MOST_SEATS, MOST_CONDITIONS, LAST_CONDITION, LEAST_CAP, MOST_FOLDED, MOST_BASE_PERMITS}
pub use Rattle.history.specs.declared.step.Answer.{Answer}
pub use Rattle.history.specs.declared.step.Answer.TheVariants.{Recorded, Sleep}
pub use Rattle.history.specs.declared.step.Step.{Step}
pub use Rattle.history.specs.declared.step.Step.TheVariants.{Acquire, Try, TryFair, EntryInterrupt, Give, Look, Expire, Interrupt, Drain}
