use Rattle.monitor.specs.Stepping.{IsSame}
use Rattle.example_guards.proofs.bounded_buffer.buffer.produce.Given as goal

abbrev pub invariant-loop-item : goal.invariant-loop-item
invariant-loop-item g l = IsSame l.fn.pass l.pass
