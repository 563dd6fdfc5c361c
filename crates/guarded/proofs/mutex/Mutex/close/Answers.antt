use Rattle.std.proofs.Common.{◌≡◌, subst, sym}
use Rattle.std.specs.List.{All}
use Rattle.guarded.specs.Below.{counts, start_on}
use Rattle.guarded.specs.inner.Stowed.{value_in}
use Rattle.guarded.specs.Stowed.{MutexView, Rests}
use Rattle.guarded.proofs.Closing.{has_value}
use Rattle.guarded.proofs.Stowing.{kept_value, rests_as, value_as}
use Rattle.guarded.proofs.mutex.Mutex.close.Goals as goal

pub returns-in-Ok-clause-value : goal.returns-in-Ok-clause-value
returns-in-Ok-clause-value g c =
    let h = c.in-Ok.closed.history in
    subst (λ (v : MutexView). Rests c.into_value.result (counts (start_on v.lock.header h) h.entries))
    c.self.view_is
    (rests_as (value_in c.in-Ok.slot) c.into_value.result
    (counts (start_on c.self.inside.monitor.header h) h.entries) c.into_value.ensures c.in-Ok.ensures.rests.0)

pub returns-in-Ok-clause-kept : goal.returns-in-Ok-clause-kept
returns-in-Ok-clause-kept g c =
    value_as g.I.Keeps.invariant (value_in c.in-Ok.slot) c.into_value.result c.into_value.ensures
    (kept_value g.I.Keeps.invariant c.in-Ok.slot c.in-Ok.ensures.rests.1)

pub returns-in-Ok-clause-free : goal.returns-in-Ok-clause-free
returns-in-Ok-clause-free g c = λ free.
    let h = c.in-Ok.closed.history in
    has_value c.self.inside.monitor c.args.passes.items c.in-Ok.closed c.into_value.result c.in-Ok.ensures.closes
    (subst (λ (v : MutexView). All (λ p. p.lock ≡ v.lock) c.args.passes.items) (sym c.self.view_is) c.requires.is_of)
    (rests_as (value_in c.in-Ok.slot) c.into_value.result
    (counts (start_on c.self.inside.monitor.header h) h.entries) c.into_value.ensures c.in-Ok.ensures.rests.0) free
