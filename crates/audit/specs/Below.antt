-- What audit cites of the crates below, passed on from one place: names of condition_queue, deciding and
-- history. Declares nothing.
pub use Rattle.acquire_queue.specs.Line.{Line}
pub use Rattle.condition_queue.specs.Following.{JoinedBy, Keeps, IsMovable}
pub use Rattle.condition_queue.specs.Sleepers.{Sleepers, asleep_on, sleeper_of}
pub use Rattle.deciding.specs.declared.balance.Balance.{Balance}
pub use Rattle.deciding.specs.declared.sleep.LastSleep.{LastSleep}
pub use Rattle.deciding.specs.Amounts.{AreAmounts}
pub use Rattle.deciding.specs.Balance.{balance}
pub use Rattle.deciding.specs.Checks.{refused_as}
pub use Rattle.deciding.specs.Claim.{IsClaim}
pub use Rattle.deciding.specs.Holds.{most_held}
pub use Rattle.deciding.specs.ObjectState.{IsHistory, HasSeat}
pub use Rattle.deciding.specs.Sleep.{sleep_of}
pub use Rattle.history.specs.declared.arrival.Arrival.{Arrival}
pub use Rattle.history.specs.declared.base.LinePlace.{LinePlace}
pub use Rattle.history.specs.declared.base.SeatBase.{SeatBase}
pub use Rattle.history.specs.declared.base.Sleeper.{Sleeper}
pub use Rattle.history.specs.declared.entry.End.{End}
pub use Rattle.history.specs.declared.entry.Entry.{Entry}
pub use Rattle.history.specs.declared.entry.Mode.{Mode}
pub use Rattle.history.specs.declared.entry.Mode.TheVariants.{X, S}
pub use Rattle.history.specs.declared.entry.Word.{Word}
pub use Rattle.history.specs.declared.entry.Word.TheVariants.{Lapse}
pub use Rattle.history.specs.declared.fault.Fault.{Fault}
pub use Rattle.history.specs.declared.header.Header.{Header}
pub use Rattle.history.specs.declared.header.Object.{Object}
pub use Rattle.history.specs.declared.header.Object.TheVariants.{Lock, ReadWrite, Semaphore, Latch}
pub use Rattle.history.specs.declared.header.Policy.{Policy}
pub use Rattle.history.specs.declared.limits.TheConstants.{MOST_AMOUNT, MOST_BASE_PERMITS}
pub use Rattle.history.specs.declared.step.Step.{Step}
pub use Rattle.history.specs.declared.step.Step.TheVariants.{Acquire, Try, TryFair, EntryInterrupt, Give, Look, Expire, Interrupt, Await, Signal, SignalAll, Drain}
pub use Rattle.history.specs.Base.{Base, nothing, opening_base, seat_of, sleepers_of, sleep_in_line, sleep_on, either, sleep_below, or_awake, based, holds_of}
pub use Rattle.history.specs.Conservation.{permits_held}
pub use Rattle.history.specs.Could.{is_seat, could, limit, held_back, try_held_back, is_none_or}
pub use Rattle.history.specs.Counts.{holds_after, held, unheld, free, count, Counts, counts, seat_with, total, owner, readers}
pub use Rattle.history.specs.Entries.{or_opening, start_on, IsBasedWell}
pub use Rattle.history.specs.Entry.{same_mode}
pub use Rattle.history.specs.Faults.{is_wrong_mode, is_no_condition}
pub use Rattle.history.specs.GoodBase.{StandsWell, SleepsWell, IsGood}
pub use Rattle.history.specs.Header.{IsInRange}
pub use Rattle.history.specs.Legal.{IsLegal, AreSeated}
pub use Rattle.history.specs.Line.{line, first_mode, place_of}
pub use Rattle.history.specs.Naming.{ready}
pub use Rattle.history.specs.Object.{is_lock, is_semaphore, created}
pub use Rattle.history.specs.Phase.{Phase, Idle, InLine, Sleeping, phase, waits, suits}
pub use Rattle.history.specs.Sleepers.{has, sleepers, sleep_after, last_sleep}
pub use Rattle.history.specs.Start.{Sleep, awake, Start, opening}
pub use Rattle.history.specs.Steps.{plain, acquired, gave, awaits, at_most_one, idle_entry, ended, back, lapse, queued_entry, line_entry, sleeping_entry, phase_entry, entry_for}
pub use Rattle.history.specs.Waiting.{times, seats_of}
