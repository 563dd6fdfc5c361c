use Rattle.std.proofs.Common.{◌≡◌}
use Rattle.std.specs.List.{All}
use Rattle.monitor.specs.Shown.{Shown}
use Rattle.example_guards.specs.Client.{IsOf}
use Rattle.example_guards.proofs.connection_pool.clients.dismiss.Given as goal

abbrev pub invariant-loop-client : goal.invariant-loop-client
invariant-loop-client l =
    All (IsOf l.pool.lock) l.client-iterator.rest.items × All (λ (p : Shown). p.lock ≡ l.pool.lock) l.passes.items
