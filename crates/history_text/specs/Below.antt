-- What history_text cites of the crates below, passed on from one place: names of history and streams.
-- Declares nothing.
unfoldable pub use Rattle.history.specs.EntryReading.{entry_at}
pub use Rattle.history.specs.declared.arrival.Arrival.{Arrival}
pub use Rattle.history.specs.declared.base.LinePlace.{LinePlace}
pub use Rattle.history.specs.declared.base.SeatBase.{SeatBase}
pub use Rattle.history.specs.declared.base.Sleeper.{Sleeper}
pub use Rattle.history.specs.declared.entry.End.{End}
pub use Rattle.history.specs.declared.entry.Entry.{Entry}
pub use Rattle.history.specs.declared.entry.Mode.{Mode}
pub use Rattle.history.specs.declared.entry.Mode.TheVariants.{X, S}
pub use Rattle.history.specs.declared.entry.Word.{Word}
pub use Rattle.history.specs.declared.entry.Word.TheVariants.{Queued, Back}
pub use Rattle.history.specs.declared.fault.Fault.{Fault}
pub use Rattle.history.specs.declared.fault.Fault.TheVariants.{NotOwner, TooManyHolds, TooManyPermits, Interrupted, HoldsRead, OutOfPhase, NoSuchCondition, BadAmount, WrongMode, HistoryFull, OutOfMemory, TrimFull}
pub use Rattle.history.specs.declared.header.Header.{Header}
pub use Rattle.history.specs.declared.header.Object.{Object}
pub use Rattle.history.specs.declared.header.Object.TheVariants.{Lock, ReadWrite, Semaphore, Latch}
pub use Rattle.history.specs.declared.header.Policy.{Policy}
pub use Rattle.history.specs.declared.limits.TheConstants.{MOST_HOLDS, MOST_READ_WRITE_HOLDS, MOST_AMOUNT, MOST_SEATS, MOST_CONDITIONS, LAST_CONDITION, MOST_FOLDED, MOST_BASE_PERMITS}
pub use Rattle.history.specs.declared.step.Step.{Step}
pub use Rattle.history.specs.declared.step.Step.TheVariants.{Acquire, Try, TryFair, EntryInterrupt, Give, Look, Expire, Interrupt, Await, Signal, SignalAll, Drain}
pub use Rattle.history.specs.Base.{Base, each_below, nothing, opening_base, seat_of, sleepers_of, holds_of, based}
pub use Rattle.history.specs.Could.{is_seat}
pub use Rattle.history.specs.Counts.{held, free, Counts, counts, total, owner}
pub use Rattle.history.specs.Entries.{HistoryView, ended_calls, or_opening, base_on, IsBasedWell, start_on}
pub use Rattle.history.specs.Entry.{ends_call}
pub use Rattle.history.specs.EntryWords.{end_word, spelt, entry_words, CameBack, HasWords, IsSpelt, IsWritten}
pub use Rattle.history.specs.Fault.{IsRecorded, fault_name}
pub use Rattle.history.specs.Faults.{lacks_mode, is_bad_number}
pub use Rattle.history.specs.GoodBase.{AreCounted, AreHeld, GaveUp, Asks, Returns, StandsWell, SleepsWell, IsGood, IsBaseOf}
pub use Rattle.history.specs.Header.{IsOpening, IsInRange}
pub use Rattle.history.specs.Legal.{IsLegal, AreSeated, calls}
pub use Rattle.history.specs.Line.{coming_back, line, place_of}
pub use Rattle.history.specs.Naming.{ready}
pub use Rattle.history.specs.Object.{is_lock, is_semaphore, is_latch, created, opening_count}
pub use Rattle.history.specs.Ownership.{most_exclusive, most_shared, IsOwned}
pub use Rattle.history.specs.Pages.{whole_pages}
pub use Rattle.history.specs.Phase.{Phase, Idle, InLine, Sleeping, phase}
pub use Rattle.history.specs.Point.{CanFold}
pub use Rattle.history.specs.Reading.{Words, keyword_at, number_at, wide_at, named_at, with_rest}
pub use Rattle.history.specs.Sleepers.{sleepers, last_sleep}
pub use Rattle.history.specs.Spelling.{part_of}
pub use Rattle.history.specs.Start.{Start}
pub use Rattle.history.specs.Steps.{plain, gave, signals, at_most_one, at_least_none, idle_entry, back, lapse, queued_entry, sleeping_entry, phase_entry, entry_for}
pub use Rattle.history.specs.Text.{HasNoBreak, ended, line_of, words_of}
pub use Rattle.history.specs.Waiting.{times, seats_of, asleep, IsOneWait}
pub use Rattle.streams.specs.declared.fault.ReadFault.{ReadFault}
pub use Rattle.streams.specs.declared.fault.TextFault.{TextFault}
pub use Rattle.streams.specs.declared.fault.TextFault.TheVariants.{BadHeader, BadLine, CutShort}
pub use Rattle.streams.specs.declared.limits.TheConstants.{LINE_BYTES}
pub use Rattle.streams.specs.Form.{Form, lines_of, AreItems, text_of}
pub use Rattle.streams.specs.HeaderLine.{LacksHeader}
pub use Rattle.streams.specs.Reading.{Begins, IsText, Reading, IsReading, IsCutShort}
pub use Rattle.streams.specs.Short.{HasShortLines}
