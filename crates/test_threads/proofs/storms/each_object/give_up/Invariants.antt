use Rattle.monitor.specs.Stepping.{IsSame}
use Rattle.test_threads.proofs.storms.each_object.give_up.Given as goal

abbrev pub invariant-loop : goal.invariant-loop
invariant-loop g l = IsSame l.fn.pass l.pass
