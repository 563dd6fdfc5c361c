use Rattle.std.proofs.Common.{◌≡◌}
use Rattle.std.specs.List.{All}
use Rattle.monitor.specs.Shown.{Shown}
use Rattle.example_guards.specs.Worker.{IsAt}
use Rattle.example_guards.proofs.latch_workers.worker.pair_up.Given as goal

abbrev pub invariant-loop-end : goal.invariant-loop-end
invariant-loop-end l =
    All (λ (p : Shown). p.lock ≡ l.shift.start) l.starts.rest.items
    × All (λ (p : Shown). p.lock ≡ l.shift.end) l.end-iterator.rest.items
    × All (IsAt l.shift.start l.shift.end) l.workers.items
