use Rattle.monitor.specs.Stepping.{IsSame}
use Rattle.example_guards.proofs.bounded_buffer.buffer.consume.Given as goal

abbrev pub invariant-loop : goal.invariant-loop
invariant-loop g l = IsSame l.fn.pass l.pass
