use Rattle.std.proofs.Common.{◌≡◌}
use Rattle.monitor.specs.Stepping.{IsSame}
use Rattle.monitor_fronts.specs.Holding.{holds}
use Rattle.test_threads.proofs.readers.play.Given as goal

abbrev pub invariant-loop : goal.invariant-loop
invariant-loop g l = IsSame l.fn.pass l.own × (holds l.own ≡ 0)
