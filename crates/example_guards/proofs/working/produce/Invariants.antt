use Rattle.std.proofs.Common.{◌≡◌}
use Rattle.monitor.specs.Stepping.{IsSame}
use Rattle.monitor_fronts.specs.Holding.{holds}
use Rattle.example_guards.proofs.working.produce.Given as goal

abbrev pub invariant-loop-item : goal.invariant-loop-item
invariant-loop-item g l = IsSame l.fn.pass l.pass × (holds l.pass ≡ 0)
