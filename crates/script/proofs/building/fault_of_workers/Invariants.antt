use Rattle.std.specs.Prelude.{All, take, length}
use Rattle.script.specs.Script.{IsWorker}
use Rattle.script.proofs.building.fault_of_workers.Given as goal

abbrev pub invariant-loop-thread : goal.invariant-loop-thread
invariant-loop-thread l = All (IsWorker l.objects (length l.workers)) (take l.thread l.workers)
