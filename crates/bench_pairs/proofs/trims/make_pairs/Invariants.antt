use Rattle.std.proofs.Common.{◌≡◌}
use Rattle.bench_pairs.proofs.trims.make_pairs.Given as goal

abbrev pub invariant-loop : goal.invariant-loop
invariant-loop l = l.core.header ≡ l.initial.core.header
