-- What explaining cites of the crates below, passed on from one place: names of audit and history. Declares
-- nothing.
pub use Rattle.audit.specs.Ledger.{LedgerStand, IsNext}
pub use Rattle.deciding.specs.Balance.{balance}
pub use Rattle.deciding.specs.ObjectState.{HasHistory, HasSeat}
pub use Rattle.history.specs.declared.arrival.Arrival.{Arrival}
pub use Rattle.history.specs.declared.base.SeatBase.{SeatBase}
pub use Rattle.history.specs.declared.entry.Entry.{Entry}
pub use Rattle.history.specs.declared.entry.Mode.{Mode}
pub use Rattle.history.specs.declared.entry.Mode.TheVariants.{X, S}
pub use Rattle.history.specs.declared.entry.Word.{Word}
pub use Rattle.history.specs.declared.entry.Word.TheVariants.{Got, TryGot, Queued, Granted, Missed, Back}
pub use Rattle.history.specs.declared.fault.Fault.{Fault}
pub use Rattle.history.specs.declared.header.Header.{Header}
pub use Rattle.history.specs.declared.header.Object.{Object}
pub use Rattle.history.specs.declared.header.Object.TheVariants.{Lock, ReadWrite, Semaphore, Latch}
pub use Rattle.history.specs.declared.limits.TheConstants.{MOST_AMOUNT, MOST_FOLDED}
pub use Rattle.history.specs.declared.step.Step.{Step}
pub use Rattle.history.specs.declared.step.Step.TheVariants.{Acquire, Try, TryFair, EntryInterrupt, Give, Look, Expire, Interrupt, Await, Signal, SignalAll, Drain}
pub use Rattle.history.specs.Base.{Base, nothing, based, folded}
pub use Rattle.history.specs.Could.{is_seat, could, held_back, try_held_back}
pub use Rattle.history.specs.Counts.{held, Counts, counts}
pub use Rattle.history.specs.Faults.{is_no_condition, is_bad_number, is_bad_amount}
pub use Rattle.history.specs.Fold.{MayFold}
pub use Rattle.history.specs.GoodBase.{IsModest, IsGood}
pub use Rattle.history.specs.Header.{IsInRange}
pub use Rattle.history.specs.Line.{line, first_of, first_mode, place_of}
pub use Rattle.history.specs.Naming.{ready_by, ready, named_by, named}
pub use Rattle.history.specs.Object.{is_lock, is_semaphore}
pub use Rattle.history.specs.Phase.{Phase, Idle, InLine, Sleeping, phase, suits}
pub use Rattle.history.specs.Point.{CanFold}
pub use Rattle.history.specs.Start.{Start}
pub use Rattle.history.specs.Steps.{idle_entry, phase_entry, entry_for}
