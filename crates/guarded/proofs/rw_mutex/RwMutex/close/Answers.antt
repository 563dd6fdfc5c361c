use Rattle.std.proofs.Common.{IsSome, subst, sym}
use Rattle.guarded.specs.Below.{counts, start_on}
use Rattle.guarded.specs.Stowed.{MutexView, Rests}
use Rattle.guarded.proofs.Stowing.{rests_as, value_as}
use Rattle.guarded.proofs.rw_mutex.RwMutex.close.Goals as goal

pub returns-in-Ok-clause-value : goal.returns-in-Ok-clause-value
returns-in-Ok-clause-value g c =
    let h = c.in-Ok.closed.history in
    subst (λ (v : MutexView). Rests c.unshared.result (counts (start_on v.lock.header h) h.entries))
    c.self.view_is
    (rests_as c.in-Ok.share c.unshared.result (counts (start_on c.self.inside.mutex.lock.header h) h.entries)
    c.unshared.ensures c.in-Ok.ensures.value)

pub returns-in-Ok-clause-kept : goal.returns-in-Ok-clause-kept
returns-in-Ok-clause-kept g c =
    value_as g.I.Keeps.invariant c.in-Ok.share c.unshared.result c.unshared.ensures c.in-Ok.ensures.kept

pub returns-in-Ok-clause-free : goal.returns-in-Ok-clause-free
returns-in-Ok-clause-free g c = λ free.
    subst IsSome (sym c.unshared.ensures) (c.in-Ok.ensures.free free)
