use Rattle.std.proofs.Common.{◌≡◌}
use Rattle.monitor.specs.Stepping.{IsSame}
use Rattle.monitor_fronts.specs.Holding.{holds}
use Rattle.test_threads.proofs.readers.look_beside.Given as goal

abbrev pub invariant-loop : goal.invariant-loop
invariant-loop g l = IsSame l.fn.pass l.pass × (holds l.pass ≡ 0)
