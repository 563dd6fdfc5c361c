use Rattle.std.proofs.Common.{◌≡◌, ℕ, ◌<◌, [], length, map, get_or, vec_capacity, All}
use Rattle.condition_queue.specs.Sleepers.{asleep_on}
use Rattle.frame.specs.inner.Snapshot.{sleeper_in}
use Rattle.frame.proofs.snapshot.write_sleepers.Given as goal

-- the lists of the conditions passed are written, and all places stay
abbrev pub invariant-loop-condition : goal.invariant-loop-condition
invariant-loop-condition l =
    record {
      written : (c : ℕ) → c < l.condition →
          get_or (map (λ list. list.items) l.lists.items) c []
          ≡ map (sleeper_in l.seats) (asleep_on l.waiters c);
      lists : length l.lists.items ≡ l.conditions;
      places : (n : ℕ) → All (λ list. vec_capacity list ≡ n) l.initial.lists.items →
          All (λ list. vec_capacity list ≡ n) l.lists.items;
    }
