-- What deciding cites of the crates below, passed on from one place: names of history. Declares nothing.
pub use Rattle.history.specs.declared.arrival.Arrival.{Arrival}
pub use Rattle.history.specs.declared.base.SeatBase.{SeatBase}
pub use Rattle.history.specs.declared.entry.Entry.{Entry}
pub use Rattle.history.specs.declared.entry.Mode.{Mode}
pub use Rattle.history.specs.declared.entry.Mode.TheVariants.{X, S}
pub use Rattle.history.specs.declared.entry.Word.{Word}
pub use Rattle.history.specs.declared.fault.Fault.{Fault}
pub use Rattle.history.specs.declared.fault.Fault.TheVariants.{OutOfPhase, NoSuchCondition, BadAmount, WrongMode}
pub use Rattle.history.specs.declared.header.Header.{Header}
pub use Rattle.history.specs.declared.header.Object.{Object}
pub use Rattle.history.specs.declared.header.Object.TheVariants.{Lock, ReadWrite, Semaphore, Latch}
pub use Rattle.history.specs.declared.step.Step.{Step}
pub use Rattle.history.specs.Base.{Base, nothing, seat_of, holds_of, based}
pub use Rattle.history.specs.Conservation.{IsConserved}
pub use Rattle.history.specs.Could.{is_seat, could, held_back, limit}
pub use Rattle.history.specs.Counts.{holds_after, held, free_after, free, counted_after, counted, count, Counts, counts, total, owner}
pub use Rattle.history.specs.Entry.{same_mode}
pub use Rattle.history.specs.Faults.{is_wrong_mode, is_no_condition, max_amount, is_bad_amount, is_bad_number, lacks_mode}
pub use Rattle.history.specs.GoodBase.{most_permits, AreCounted, AreHeld, IsGood}
pub use Rattle.history.specs.Header.{IsOpening, IsInRange}
pub use Rattle.history.specs.Legal.{IsLegal, AreSeated}
pub use Rattle.history.specs.Line.{line, first_of, first_mode, place_of}
pub use Rattle.history.specs.Naming.{ready, named_by}
pub use Rattle.history.specs.Object.{is_lock, is_semaphore, created, opening_count, in_holds, is_latch, is_strict}
pub use Rattle.history.specs.Ownership.{most_shared, IsOwned, is_away}
pub use Rattle.history.specs.Phase.{Phase, phase, suits, waits}
pub use Rattle.history.specs.Point.{CanFold}
pub use Rattle.history.specs.Sleepers.{sleepers, last_sleep, sleeps_below}
pub use Rattle.history.specs.Start.{Start, opening}
pub use Rattle.history.specs.Steps.{phase_entry, entry_for, acquired, at_least_none, awaits, gave, idle_entry, line_entry, signals, tried, tried_fairly, plain, ended, queued_entry, sleeping_entry, back}
