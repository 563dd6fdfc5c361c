use Rattle.std.proofs.Common.{◌≡◌}
use Rattle.std.specs.List.{All}
use Rattle.monitor.specs.Shown.{Shown}
use Rattle.example_guards.specs.Client.{IsOf}
use Rattle.example_guards.proofs.connection_pool.clients.enroll.Given as goal

abbrev pub invariant-loop-pass : goal.invariant-loop-pass
invariant-loop-pass l =
    All (λ (p : Shown). p.lock ≡ l.pool.lock) l.pass-iterator.rest.items × All (IsOf l.pool.lock) l.clients.items
