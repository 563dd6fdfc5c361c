use Rattle.std.proofs.Common.{◌≡◌}
use Rattle.std.specs.List.{All}
use Rattle.std.specs.declared.thread.PromisedHandle.{PromisedHandle}
use Rattle.example_guards.specs.Worker.{IsAt}
use Rattle.example_guards.specs.declared.latch_workers.threads.ComesBack.{ComesBack}
use Rattle.example_guards.specs.declared.latch_workers.worker.Worker.{Worker}
use Rattle.example_guards.proofs.latch_workers.threads.start_all.Given as goal

abbrev pub invariant-loop-worker : goal.invariant-loop-worker
invariant-loop-worker g l =
    All (IsAt l.shift.start l.shift.end) l.worker-iterator.rest.items
    × All (λ (h : PromisedHandle Worker ComesBack). h.promise.shift.now ≡ l.shift) l.handles.items
