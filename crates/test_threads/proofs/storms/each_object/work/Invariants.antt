use Rattle.monitor.specs.Stepping.{IsSame}
use Rattle.test_threads.proofs.storms.each_object.work.Given as goal

abbrev pub invariant-loop-give : goal.invariant-loop-give
invariant-loop-give g l = IsSame l.fn.pass l.own
