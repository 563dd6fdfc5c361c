use Rattle.std.proofs.Common.{◌≡◌}
use Rattle.std.specs.List.{All}
use Rattle.std.specs.declared.thread.PromisedHandle.{PromisedHandle}
use Rattle.example_guards.specs.Worker.{IsAt}
use Rattle.example_guards.specs.declared.latch_workers.threads.ComesBack.{ComesBack}
use Rattle.example_guards.specs.declared.latch_workers.worker.Worker.{Worker}
use Rattle.example_guards.proofs.latch_workers.threads.join_all.Given as goal

abbrev pub invariant-loop-handle : goal.invariant-loop-handle
invariant-loop-handle g l =
    All (λ (h : PromisedHandle Worker ComesBack). h.promise.shift.now ≡ l.shift) l.handle-iterator.rest.items
    × All (IsAt l.shift.start l.shift.end) l.workers.items
