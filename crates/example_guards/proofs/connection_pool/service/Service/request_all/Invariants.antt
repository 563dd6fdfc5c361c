use Rattle.std.proofs.Common.{◌≡◌}
use Rattle.example_guards.proofs.connection_pool.service.Service.request_all.Given as goal

abbrev pub invariant-loop : goal.invariant-loop
invariant-loop g l = l.pass.lock ≡ l.self.pool.now.lock
