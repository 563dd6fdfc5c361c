use Rattle.monitor.specs.Stepping.{IsSame}
use Rattle.test_threads.proofs.memory.refusals_of_acquire.Given as goal

abbrev pub invariant-loop-refused : goal.invariant-loop-refused
invariant-loop-refused g l = IsSame l.fn.pass l.pass
