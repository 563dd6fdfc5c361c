-- What laws cites of the crates below, passed on from one place: names of history. Declares nothing.
pub use Rattle.history.specs.declared.arrival.Arrival.{Arrival}
pub use Rattle.history.specs.declared.base.LinePlace.{LinePlace}
pub use Rattle.history.specs.declared.base.SeatBase.{SeatBase}
pub use Rattle.history.specs.declared.entry.End.{End}
pub use Rattle.history.specs.declared.entry.Entry.{Entry}
pub use Rattle.history.specs.declared.entry.Mode.{Mode}
pub use Rattle.history.specs.declared.entry.Mode.TheVariants.{X, S}
pub use Rattle.history.specs.declared.entry.Word.{Word}
pub use Rattle.history.specs.declared.fault.Fault.{Fault}
pub use Rattle.history.specs.declared.fault.Fault.TheVariants.{NotOwner, TooManyPermits, HoldsRead, OutOfPhase, NoSuchCondition, BadAmount, WrongMode, HistoryFull}
pub use Rattle.history.specs.declared.header.Header.{Header}
pub use Rattle.history.specs.declared.header.Object.TheVariants.{Lock, ReadWrite, Semaphore, Latch}
pub use Rattle.history.specs.declared.header.Policy.{Policy}
pub use Rattle.history.specs.declared.header.Policy.TheVariants.{Fair, NonFair, Strict}
pub use Rattle.history.specs.declared.limits.TheConstants.{MOST_AMOUNT, MOST_FOLDED}
pub use Rattle.history.specs.declared.point.Point.{Point}
pub use Rattle.history.specs.declared.step.Answer.{Answer}
pub use Rattle.history.specs.declared.step.Answer.TheVariants.{Recorded}
pub use Rattle.history.specs.declared.step.Step.{Step}
pub use Rattle.history.specs.Answers.{results, answer}
pub use Rattle.history.specs.Base.{Base, opening_base, based, folded}
pub use Rattle.history.specs.Conservation.{IsConserved}
pub use Rattle.history.specs.Could.{is_seat}
pub use Rattle.history.specs.Counts.{held, unheld, free, total, count}
pub use Rattle.history.specs.GoodBase.{IsGood, IsModest}
pub use Rattle.history.specs.Header.{IsInRange}
pub use Rattle.history.specs.Legal.{IsLegal, calls, AreSeated}
pub use Rattle.history.specs.Line.{coming_back, Arrived, line}
pub use Rattle.history.specs.Marks.{unmarked, marks, AreTold, AreRight, StandInLine, marks_after, remarked}
pub use Rattle.history.specs.Naming.{ready, named_by, named}
pub use Rattle.history.specs.NextBase.{next_base}
pub use Rattle.history.specs.Object.{created, is_lock, is_semaphore}
pub use Rattle.history.specs.Order.{IsInOrder, IsFairOrder}
pub use Rattle.history.specs.Ownership.{IsOwned, IsSaved, is_away}
pub use Rattle.history.specs.Phase.{Idle, InLine, phase}
pub use Rattle.history.specs.Point.{CanFold, Agrees, ComesBefore, FollowsBy}
pub use Rattle.history.specs.Room.{owed, Fits, reserves, releases, has_room, was_owed}
pub use Rattle.history.specs.Sleepers.{last_sleep, sleepers}
pub use Rattle.history.specs.Start.{Start, opening}
pub use Rattle.history.specs.Steps.{plain, entry_for}
pub use Rattle.history.specs.Waiting.{IsOneWait, asleep}
