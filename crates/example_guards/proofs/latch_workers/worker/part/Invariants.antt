use Rattle.std.proofs.Common.{◌≡◌, ◌+◌, length}
use Rattle.std.specs.List.{All}
use Rattle.monitor.specs.Shown.{Shown}
use Rattle.example_guards.specs.Worker.{IsAt}
use Rattle.example_guards.proofs.latch_workers.worker.part.Given as goal

abbrev pub invariant-loop-worker : goal.invariant-loop-worker
invariant-loop-worker l =
    All (IsAt l.shift.start l.shift.end) l.worker-iterator.rest.items
    × All (λ (p : Shown). p.lock ≡ l.shift.start) l.starts.items
    × All (λ (p : Shown). p.lock ≡ l.shift.end) l.ends.items
    × (length l.starts.items + length l.worker-iterator.rest.items ≡ length l.fn.workers.items)
    × (length l.ends.items + length l.worker-iterator.rest.items ≡ length l.fn.workers.items)
