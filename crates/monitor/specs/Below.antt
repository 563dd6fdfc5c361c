-- What monitor cites of the crates below, passed on from one place: names of deciding, frame, history, permit
-- and word_lock. Declares nothing.
pub use Rattle.deciding.specs.Balance.{available, balance}
pub use Rattle.frame.specs.AtOnce.{entry_at_once}
pub use Rattle.frame.specs.Core.{CoreView, start_of, counts_of, marks_of, IsTold, made_by, MakesOwed, NamesBelow, IsAnswered, IsTrimmed}
pub use Rattle.frame.specs.Effects.{IsAllowed}
pub use Rattle.frame.specs.Hooks.{AreAlike, drain_answer_of}
pub use Rattle.history.specs.declared.arrival.Arrival.{Arrival}
pub use Rattle.history.specs.declared.entry.End.{End}
pub use Rattle.history.specs.declared.entry.Entry.{Entry}
pub use Rattle.history.specs.declared.entry.Mode.{Mode}
pub use Rattle.history.specs.declared.entry.Mode.TheVariants.{X, S}
pub use Rattle.history.specs.declared.entry.Word.{Word}
pub use Rattle.history.specs.declared.fault.Fault.{Fault}
pub use Rattle.history.specs.declared.fault.Fault.TheVariants.{OutOfPhase, HistoryFull, OutOfMemory, TrimFull}
pub use Rattle.history.specs.declared.header.Header.{Header}
pub use Rattle.history.specs.declared.header.Object.{Object}
pub use Rattle.history.specs.declared.header.Object.TheVariants.{Lock, ReadWrite, Semaphore, Latch}
pub use Rattle.history.specs.declared.point.Point.{Point}
pub use Rattle.history.specs.declared.step.Answer.{Answer}
pub use Rattle.history.specs.declared.step.Answer.TheVariants.{Recorded, Sleep}
pub use Rattle.history.specs.declared.step.Step.{Step}
pub use Rattle.history.specs.declared.step.Step.TheVariants.{Acquire, Try, TryFair, EntryInterrupt, Give, Look, Expire, Interrupt, Await, Signal, SignalAll, Drain}
pub use Rattle.history.specs.Answers.{recorded, answer_by, answer}
pub use Rattle.history.specs.Awaiting.{SleepsAs, ReturnsAs, AwaitsAs, signalled, lapsed, back_from, lapse_from}
pub use Rattle.history.specs.Base.{Base, opening_base, seat_of, based, calls_of, folded}
pub use Rattle.history.specs.Could.{is_seat, could_of, could, limit, held_back, try_held_back}
pub use Rattle.history.specs.Counts.{holds_after, held, free_after, free, counted_after, counted, Counts, counts, total, owner}
pub use Rattle.history.specs.Entries.{HistoryView, ended_calls, or_opening, base_on, start_on, IsBasedWell}
pub use Rattle.history.specs.Entry.{same_mode, ends_call}
pub use Rattle.history.specs.Faults.{is_wrong_mode, is_no_condition, is_bad_amount}
pub use Rattle.history.specs.Fold.{MayFold}
pub use Rattle.history.specs.Legal.{IsLegal, AreSeated, calls}
pub use Rattle.history.specs.Line.{line, first_of, first_mode, place_of}
pub use Rattle.history.specs.Marks.{is_placed, AreRight}
pub use Rattle.history.specs.Naming.{ready_by, ready, named_by, named}
pub use Rattle.history.specs.Object.{is_lock, is_semaphore, opening_count, in_holds}
pub use Rattle.history.specs.Order.{IsInOrder, IsFairOrder}
pub use Rattle.history.specs.Phase.{Phase, Idle, InLine, Sleeping, phase, waits, suits}
pub use Rattle.history.specs.Point.{CanFold, entries_of}
pub use Rattle.history.specs.Room.{owed, has_room, was_owed}
pub use Rattle.history.specs.Sleepers.{sleepers, sleeps_below}
pub use Rattle.history.specs.Start.{Start, opening}
pub use Rattle.history.specs.Steps.{plain, gave, awaits, signals, at_most_one, at_least_none, idle_entry, ended, queued_entry, phase_entry, entry_for}
pub use Rattle.permit.specs.declared.parking.Woke.{Woke}
pub use Rattle.permit.specs.declared.parking.Woke.TheVariants.{Permit, Deadline, Interrupted}
pub use Rattle.permit.specs.Deed.{Deed, showed, parked, unparked, interrupted, took_interrupt}
pub use Rattle.word_lock.specs.declared.view.SeatLog.{SeatLog}
pub use Rattle.word_lock.specs.Held.{held_ticket}
unfoldable pub use Rattle.word_lock.specs.Point.{header_of, Before, Agrees, added, Follows}
pub use Rattle.word_lock.specs.Rule.{AllAgree, AreDistinct}
pub use Rattle.word_lock.specs.Ticket.{LockId, Ticket, first_seat, first_entries, opening_ticket, opening_tickets, after_lock, after_unlock, after_meet}
