use Rattle.std.proofs.Common.{◌<◌}
use Rattle.bench_pairs.proofs.trims.time_of_trims.Given as goal

abbrev pub invariant-loop : goal.invariant-loop
invariant-loop g l = 0 < l.core.header.seats
