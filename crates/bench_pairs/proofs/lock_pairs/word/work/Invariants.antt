use Rattle.std.proofs.Common.{◌≡◌, true, length}
use Rattle.bench_pairs.proofs.lock_pairs.word.work.Given as goal

abbrev pub invariant-loop : goal.invariant-loop
invariant-loop g l = (l.token.lock ≡ l.lock) × (l.token.free ≡ true) × (length l.token.logs ≡ 1)
