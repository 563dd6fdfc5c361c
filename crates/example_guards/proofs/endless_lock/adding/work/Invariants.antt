use Rattle.std.proofs.Common.{◌≡◌}
use Rattle.monitor.specs.Stepping.{IsSame}
use Rattle.monitor_fronts.specs.Holding.{holds}
use Rattle.example_guards.proofs.endless_lock.adding.work.Given as goal

abbrev pub invariant-loop : goal.invariant-loop
invariant-loop g l = IsSame l.fn.pass l.worker × (holds l.worker ≡ holds l.fn.pass)
