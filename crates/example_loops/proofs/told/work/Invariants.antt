use Rattle.locks.specs.Calling.{CanLock}
use Rattle.example_loops.proofs.told.work.Given as goal

abbrev pub invariant-loop : goal.invariant-loop
invariant-loop g l =
    (goal.iterator-loop g).can_next l.iterator' × (goal.iterator-loop g).is_finite l.iterator'
    × CanLock l.fn.desk l.fn.parking l.pass
