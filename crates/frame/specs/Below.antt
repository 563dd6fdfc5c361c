-- What frame cites of the crates below, passed on from one place: names of acquire_queue, condition_queue,
-- deciding, history and node_arena. Declares nothing.
pub use Rattle.acquire_queue.specs.Line.{Line, live, plain_place, IsTidy}
pub use Rattle.condition_queue.specs.Following.{JoinedBy, Keeps, line_behind}
pub use Rattle.condition_queue.specs.Sleepers.{Sleepers, asleep_on}
pub use Rattle.deciding.specs.declared.balance.Balance.{Balance}
pub use Rattle.deciding.specs.declared.sleep.LastSleep.{LastSleep}
pub use Rattle.deciding.specs.Balance.{available, balance}
pub use Rattle.deciding.specs.Checks.{refused_as}
pub use Rattle.deciding.specs.ObjectState.{IsHistory}
pub use Rattle.deciding.specs.Sleep.{sleep_of}
pub use Rattle.history.specs.declared.arrival.Arrival.{Arrival}
pub use Rattle.history.specs.declared.base.LinePlace.{LinePlace}
pub use Rattle.history.specs.declared.base.SeatBase.{SeatBase}
pub use Rattle.history.specs.declared.base.Sleeper.{Sleeper}
pub use Rattle.history.specs.declared.entry.Entry.{Entry}
pub use Rattle.history.specs.declared.entry.Mode.{Mode}
pub use Rattle.history.specs.declared.entry.Mode.TheVariants.{X, S}
pub use Rattle.history.specs.declared.entry.Word.{Word}
pub use Rattle.history.specs.declared.entry.Word.TheVariants.{Got, TryGot, Granted, Left, Gave, Refused, Await, Lapse, Back, Counted, Drained}
pub use Rattle.history.specs.declared.fault.Fault.{Fault}
pub use Rattle.history.specs.declared.fault.Fault.TheVariants.{HistoryFull, OutOfMemory, TrimFull}
pub use Rattle.history.specs.declared.header.Header.{Header}
pub use Rattle.history.specs.declared.header.Object.{Object}
pub use Rattle.history.specs.declared.header.Object.TheVariants.{Lock, ReadWrite, Semaphore, Latch}
pub use Rattle.history.specs.declared.header.Policy.{Policy}
pub use Rattle.history.specs.declared.limits.TheConstants.{MOST_FOLDED}
pub use Rattle.history.specs.declared.step.Answer.{Answer}
pub use Rattle.history.specs.declared.step.Answer.TheVariants.{Recorded, Sleep}
pub use Rattle.history.specs.declared.step.Step.{Step}
pub use Rattle.history.specs.declared.step.Step.TheVariants.{Acquire, Try, TryFair, Give, Look}
pub use Rattle.history.specs.Answers.{recorded, answer_by, answer, results}
pub use Rattle.history.specs.Base.{Base, each_below, nothing, opening_base, seat_of, based, calls_of, seat_after, stands_from, standing_after, sleeper_after, folded}
pub use Rattle.history.specs.Changes.{holds_with, took, gave_back, counted_down, given_of, given, let_go, restored, drained}
pub use Rattle.history.specs.Could.{max_holds, max_shared, is_seat, is_none_or, could_of, could, limit, is_reentrant, held_back}
pub use Rattle.history.specs.Counts.{holds_after, held, unheld, free_after, free, counted_after, counted, Counts, counts, seat_with, owner, readers, count}
pub use Rattle.history.specs.Entries.{HistoryView, or_opening, base_on, start_on}
pub use Rattle.history.specs.Entry.{is_exclusive, same_mode, ends_arrival, ends_call}
pub use Rattle.history.specs.Faults.{max_amount}
pub use Rattle.history.specs.Fold.{MayFold}
pub use Rattle.history.specs.GoodBase.{most_folded, IsGood}
pub use Rattle.history.specs.Header.{IsInRange}
pub use Rattle.history.specs.Legal.{IsLegal, AreSeated}
pub use Rattle.history.specs.Line.{coming_back, arrivals_by, line, first_of, mode_of, first_mode, place_of}
pub use Rattle.history.specs.Marks.{unmarked, marks_after, marks, AreTold, StandInLine, AreRight, own_mark, remarked}
pub use Rattle.history.specs.Naming.{ready_by, ready, named_by, named}
pub use Rattle.history.specs.Object.{is_strict, is_lock, is_semaphore, is_latch, created, opening_count, in_holds}
pub use Rattle.history.specs.Order.{IsInOrder, IsFairOrder}
pub use Rattle.history.specs.Ownership.{most_exclusive, is_away}
pub use Rattle.history.specs.Pages.{whole_pages}
pub use Rattle.history.specs.Phase.{Idle, InLine, phase_by, phase, waits}
pub use Rattle.history.specs.Point.{CanFold}
pub use Rattle.history.specs.Room.{owed, has_room, reserves, releases, was_owed}
pub use Rattle.history.specs.Sleepers.{has, sleepers_after, sleepers, sleeps_below, sleep_after, last_sleep}
pub use Rattle.history.specs.Start.{awake, Start, opening}
pub use Rattle.history.specs.Steps.{plain, acquired, tried, tried_fairly, gave, at_least_none, idle_entry, ended, back, queued_entry, line_entry, entry_for}
pub use Rattle.history.specs.Waiting.{StandOnce}
pub use Rattle.node_arena.specs.declared.node.NumberedNode.{NumberedNode}
