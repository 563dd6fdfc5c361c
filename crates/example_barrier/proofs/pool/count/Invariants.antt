use Rattle.locks.specs.Calling.{CanCall}
use Rattle.example_barrier.proofs.pool.count.Given as goal

abbrev pub invariant-loop : goal.invariant-loop
invariant-loop g l = CanCall l.fn.pool.lock l.fn.parking l.pass
