-- What drawing cites of the crates below, passed on from one place: names of audit, deciding, history and
-- summing. Declares nothing.
pub use Rattle.audit.specs.Ledger.{IsNext, LedgerStand}
pub use Rattle.deciding.specs.declared.sleep.LastSleep.{LastSleep}
pub use Rattle.deciding.specs.ObjectState.{IsHistory, HasHistory, HasSeat}
pub use Rattle.deciding.specs.Sleep.{sleep_of}
pub use Rattle.history.specs.declared.arrival.Arrival.{Arrival}
pub use Rattle.history.specs.declared.entry.End.{End}
pub use Rattle.history.specs.declared.entry.Entry.{Entry}
pub use Rattle.history.specs.declared.entry.Mode.TheVariants.{X, S}
pub use Rattle.history.specs.declared.entry.Word.{Word}
pub use Rattle.history.specs.declared.header.Header.{Header}
pub use Rattle.history.specs.declared.header.Object.{Object}
pub use Rattle.history.specs.declared.header.Object.TheVariants.{Lock, ReadWrite, Semaphore, Latch}
pub use Rattle.history.specs.declared.header.Policy.TheVariants.{Fair}
pub use Rattle.history.specs.Base.{based}
pub use Rattle.history.specs.Counts.{held, free, count}
pub use Rattle.history.specs.Entry.{ends_arrival}
pub use Rattle.history.specs.GoodBase.{IsGood}
pub use Rattle.history.specs.Header.{IsInRange}
pub use Rattle.history.specs.Legal.{IsLegal}
pub use Rattle.history.specs.Line.{coming_back, arrivals_by, line, place_of}
pub use Rattle.history.specs.Marks.{is_placed}
pub use Rattle.history.specs.Ownership.{is_away}
pub use Rattle.history.specs.Phase.{phase, phase_by}
pub use Rattle.history.specs.Point.{CanFold}
pub use Rattle.history.specs.Sleepers.{without, has, last_sleep, sleepers_after, sleepers, sleeps_below}
pub use Rattle.history.specs.Start.{Start, opening}
pub use Rattle.history.specs.Steps.{plain}
pub use Rattle.summing.specs.Counting.{more, is_queued, is_signal}
pub use Rattle.summing.specs.Passing.{takes_anew, is_passed}
pub use Rattle.summing.specs.Waits.{asks, begun}
