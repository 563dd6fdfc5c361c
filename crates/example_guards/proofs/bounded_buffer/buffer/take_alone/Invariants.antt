use Rattle.std.proofs.Common.{◌≡◌}
use Rattle.monitor.specs.Stepping.{IsSame}
use Rattle.monitor_fronts.specs.Holding.{holds}
use Rattle.example_guards.proofs.bounded_buffer.buffer.take_alone.Given as goal

abbrev pub invariant-loop : goal.invariant-loop
invariant-loop g l =
    (goal.iterator-loop g).can_next l.iterator' × (goal.iterator-loop g).is_finite l.iterator'
    × IsSame l.fn.pass l.pass × (holds l.pass ≡ holds l.fn.pass)
