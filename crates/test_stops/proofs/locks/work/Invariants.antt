use Rattle.std.proofs.Common.{◌≡◌, true, length}
use Rattle.test_stops.proofs.locks.work.Given as goal

abbrev pub invariant-loop : goal.invariant-loop
invariant-loop g l = (l.token.lock ≡ l.lock) × (l.token.free ≡ true) × (length l.token.logs ≡ 1)
