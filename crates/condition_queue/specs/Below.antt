-- What condition_queue cites of the crates below, passed on from one place: names of acquire_queue, deciding,
-- history and node_arena. Declares nothing.
pub use Rattle.acquire_queue.specs.Line.{Line}
pub use Rattle.deciding.specs.ObjectState.{IsHistory}
pub use Rattle.history.specs.declared.arrival.Arrival.{Arrival}
pub use Rattle.history.specs.declared.entry.Entry.{Entry}
pub use Rattle.history.specs.declared.entry.Word.{Word}
pub use Rattle.history.specs.declared.entry.Word.TheVariants.{Queued, Granted, Left, Await, Lapse, Signal, SignalAll, Back}
pub use Rattle.history.specs.Line.{coming_back, arrivals_by, line, place_of}
pub use Rattle.history.specs.Sleepers.{without, has, sleepers_after, sleepers, sleeps_below, last_sleep}
pub use Rattle.history.specs.Start.{Start}
pub use Rattle.history.specs.Steps.{at_most_one}
pub use Rattle.history.specs.Waiting.{asleep}
pub use Rattle.node_arena.specs.LinkedLists.{LinkedLists, items, list_of, list_count, key_limit, Moves}
