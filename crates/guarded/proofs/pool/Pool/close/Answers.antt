use Rattle.std.proofs.Common.{subst}
use Rattle.guarded.specs.Below.{counts, start_on}
use Rattle.guarded.specs.Prelude.{Lies, MutexView}
use Rattle.guarded.proofs.Shelving.{lies_available}
use Rattle.guarded.proofs.pool.Pool.close.Goals as goal

pub returns-in-Ok-clause-items : goal.returns-in-Ok-clause-items
returns-in-Ok-clause-items g c =
    let h = c.in-Ok.closed.history in
    subst (λ (v : MutexView). Lies c.in-Ok.shelf.items (counts (start_on v.lock.header h) h.entries))
    c.self.view_is c.in-Ok.ensures.rests.0

pub returns-in-Ok-clause-each : goal.returns-in-Ok-clause-each
returns-in-Ok-clause-each g c =
    let h = c.in-Ok.closed.history in
    lies_available c.in-Ok.shelf.items (start_on c.self.inside.monitor.header h) h.entries c.in-Ok.closed.balance
    c.in-Ok.ensures.closes.balance c.in-Ok.ensures.rests.0
