use Rattle.monitor.specs.Stepping.{IsSame}
use Rattle.bench_pairs.proofs.monitor_pairs.pairs.make_pairs.Given as goal

abbrev pub invariant-loop : goal.invariant-loop
invariant-loop g l = IsSame l.fn.pass l.own
