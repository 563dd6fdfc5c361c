use Rattle.locks.specs.Calling.{CanLock}
use Rattle.example_loops.proofs.submitting.submit_each.Given as goal

abbrev pub invariant-loop-job : goal.invariant-loop-job
invariant-loop-job g l = CanLock l.fn.queue l.fn.parking l.pass
