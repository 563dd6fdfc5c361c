-- What the proofs of history cite of its own definitions, passed on from one place: arrivals, entries, steps,
-- answers, faults, headers and bases with their variants, and what the model defines of them. Declares
-- nothing.
pub use Rattle.history.specs.declared.arrival.Arrival.{Arrival}
pub use Rattle.history.specs.declared.base.LinePlace.{LinePlace}
pub use Rattle.history.specs.declared.base.SeatBase.{SeatBase}
pub use Rattle.history.specs.declared.base.Sleeper.{Sleeper}
pub use Rattle.history.specs.declared.entry.End.{End}
pub use Rattle.history.specs.declared.entry.Entry.{Entry}
pub use Rattle.history.specs.declared.entry.Mode.{Mode}
pub use Rattle.history.specs.declared.entry.Mode.TheVariants.{X, S}
pub use Rattle.history.specs.declared.entry.Word.{Word}
pub use Rattle.history.specs.declared.entry.Word.TheVariants.{Queued, Granted, Missed, Left, Refused, Back}
pub use Rattle.history.specs.declared.fault.Fault.{Fault}
pub use Rattle.history.specs.declared.header.Header.{Header}
pub use Rattle.history.specs.declared.header.Object.{Object}
pub use Rattle.history.specs.declared.header.Object.TheVariants.{Lock, ReadWrite, Semaphore, Latch}
pub use Rattle.history.specs.declared.header.Policy.{Policy}
pub use Rattle.history.specs.declared.header.Policy.TheVariants.{Fair, NonFair, Strict}
pub use Rattle.history.specs.declared.limits.TheConstants.{MOST_HOLDS, MOST_READ_WRITE_HOLDS, MOST_AMOUNT, MOST_SEATS, MOST_CONDITIONS, LEAST_CAP, MOST_FOLDED, MOST_BASE_PERMITS}
pub use Rattle.history.specs.declared.point.Point.{Point}
pub use Rattle.history.specs.declared.step.Answer.{Answer}
pub use Rattle.history.specs.declared.step.Answer.TheVariants.{Recorded}
pub use Rattle.history.specs.declared.step.Step.{Step}
pub use Rattle.history.specs.declared.step.Step.TheVariants.{Acquire, Try, TryFair, EntryInterrupt, Give, Look, Expire, Interrupt, Await, Signal, SignalAll, Drain}
pub use Rattle.history.specs.Answers.{recorded, answer_by, answer, results}
pub use Rattle.history.specs.Awaiting.{SleepsAs, ReturnsAs, AwaitsAs, signalled, lapsed, back_from, lapse_from}
pub use Rattle.history.specs.Base.{Base, each_below, nothing, opening_base, seat_of, sleepers_of, holds_of, sleep_in_line, sleep_on, either, sleep_below, or_awake, based, calls_of, seat_after, stands_from, standing_after, sleeper_after, folded}
pub use Rattle.history.specs.Conservation.{permits_held, IsConserved}
pub use Rattle.history.specs.Could.{is_seat, is_none_or, could_of, could, limit, is_reentrant, line_blocks, held_back, try_held_back}
pub use Rattle.history.specs.Counts.{holds_after, held, beyond, unheld, free_after, free, counted_after, counted, count, Counts, counts, seat_with, total, owner, readers}
pub use Rattle.history.specs.Entries.{HistoryView, ended_calls, calls_before, all_calls, or_opening, start_on, IsBasedWell}
pub use Rattle.history.specs.Entry.{same_mode, ends_arrival, ends_call}
pub use Rattle.history.specs.EntryReading.{given_up_at, come_back_at, recorded_at}
unfoldable pub use Rattle.history.specs.EntryReading.{asked_at, condition_at, sleepers_at, left_at, refused_at, lapse_at, back_at, shared_at, named_entry_at, entry_at}
pub use Rattle.history.specs.EntryWords.{mode_word, end_word, spelt, entry_words, CameBack, HasWords, IsWritten}
pub use Rattle.history.specs.Fault.{IsRecorded, fault_name}
pub use Rattle.history.specs.Faults.{lacks_mode, is_wrong_mode, is_no_condition, is_bad_number, is_bad_amount}
pub use Rattle.history.specs.Fold.{MayFold}
pub use Rattle.history.specs.GoodBase.{AreCounted, ArePermits, AreHeld, GaveUp, StandsWell, SleepsWell, IsGood, IsModest}
pub use Rattle.history.specs.Header.{IsOpening, IsInRange}
pub use Rattle.history.specs.Legal.{IsLegal, AreSeated, calls}
pub use Rattle.history.specs.Line.{coming_back, arrivals_by, Arrived, arrived_at, arrivals, line, Ending, first_ending, ending, is_open, stands, first_of, mode_of, first_mode, place_of}
pub use Rattle.history.specs.Marks.{is_lapse, is_placed, unmarked, marks_after, marks, AreTold, StandInLine, AreRight, own_mark, remarked}
pub use Rattle.history.specs.Naming.{ready_by, ready, named_by, named}
pub use Rattle.history.specs.NextBase.{seat_then, count_then, stays_there, signalled_on, joins_line, sleepers_then, next_base}
pub use Rattle.history.specs.Object.{is_fair_policy, is_strict_policy, is_fair, is_strict, is_lock, is_semaphore, is_latch, created, opening_count, in_holds}
pub use Rattle.history.specs.Order.{is_passage, EndedBefore, IsInOrder, takes_in_turn, IsFairOrder}
pub use Rattle.history.specs.Ownership.{most_exclusive, most_shared, IsOwned, is_away, IsSaved}
pub use Rattle.history.specs.Phase.{Phase, Idle, InLine, Sleeping, phase_by, phase, waits, suits}
pub use Rattle.history.specs.Point.{Grows, CanFold, IsFolded, ComesBefore, entries_of, Agrees, FollowsBy}
pub use Rattle.history.specs.Reading.{Words}
pub use Rattle.history.specs.Room.{sum_of, holds_owe, arrival_owes, sleeper_owes, sleepers_owe, owed, has_room, Fits, reserved_by, released_by, reserves, releases, was_owed_by, was_owed}
pub use Rattle.history.specs.Sleepers.{without, has, sleepers_after, sleepers, sleeps_below, sleep_after, last_sleep}
pub use Rattle.history.specs.Spelling.{policy_word, object_words, part_words, part_of}
pub use Rattle.history.specs.Start.{Sleep, awake, Start, opening}
pub use Rattle.history.specs.Steps.{plain, acquired, tried, tried_fairly, gave, awaits, signals, at_most_one, at_least_none, idle_entry, ended, back, lapse, queued_entry, line_entry, sleeping_entry, phase_entry, entry_for}
pub use Rattle.history.specs.Text.{line_of, words_of}
pub use Rattle.history.specs.Waiting.{times, StandOnce, seats_of, asleep, waiting, IsOneWait}
