use Rattle.std.proofs.Common.{◌≡◌, ◌++◌, map, take, drop, vec_capacity}
use Rattle.frame.specs.inner.Snapshot.{with_sleep}
use Rattle.frame.proofs.snapshot.save_sleeps.Given as goal

abbrev pub invariant-loop-place : goal.invariant-loop-place
invariant-loop-place l =
    record {
      items : l.line.items
          ≡ map (with_sleep l.seats) (take l.place l.initial.line.items) ++ drop l.place l.initial.line.items;
      capacity : vec_capacity l.line ≡ vec_capacity l.initial.line;
    }
