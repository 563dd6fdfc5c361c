use Rattle.locks.specs.Calling.{CanLock}
use Rattle.example_loops.proofs.rounds.add_often.Given as goal

abbrev pub invariant-loop : goal.invariant-loop
invariant-loop g l = CanLock l.fn.number l.fn.parking l.pass
