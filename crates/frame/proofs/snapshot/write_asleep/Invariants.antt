use Rattle.std.proofs.Common.{◌≡◌, map, take, vec_capacity, vec_len, slice_get}
use Rattle.condition_queue.specs.Sleepers.{asleep_on}
use Rattle.frame.specs.inner.Snapshot.{sleeper_in}
use Rattle.frame.proofs.snapshot.write_asleep.Given as goal

-- the waiters passed, and the next one
abbrev pub invariant-loop : goal.invariant-loop
invariant-loop l =
    record {
      next : l.next ≡ slice_get (asleep_on l.waiters l.condition) l.counter;
      items : l.list.items ≡ map (sleeper_in l.seats) (take l.counter (asleep_on l.waiters l.condition));
      len : vec_len l.list ≡ l.counter;
      capacity : vec_capacity l.list ≡ vec_capacity l.initial.list;
    }
