use Rattle.locks.specs.Calling.{CanLock}
use Rattle.example_barrier.proofs.visit_often.Given as goal

abbrev pub invariant-loop : goal.invariant-loop
invariant-loop g l = CanLock l.fn.barrier.lock l.fn.parking l.pass
