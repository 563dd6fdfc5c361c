use Rattle.monitor.specs.Stepping.{IsSame}
use Rattle.test_threads.proofs.beside.step_twice.Given as goal

abbrev pub invariant-loop : goal.invariant-loop
invariant-loop g l = IsSame l.fn.pass l.pass
