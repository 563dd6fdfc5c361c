use Rattle.locks.specs.Calling.{CanLock}
use Rattle.example_loops.proofs.working.work.Given as goal

abbrev pub invariant-loop : goal.invariant-loop
invariant-loop g l =
    (goal.iterator-loop g).can_next l.iterator' × (goal.iterator-loop g).is_finite l.iterator'
    × CanLock l.fn.queue l.fn.parking l.pass
