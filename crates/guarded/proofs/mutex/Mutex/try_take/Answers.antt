use Rattle.guarded.proofs.Stowing.{kept_so}
use Rattle.guarded.proofs.mutex.Mutex.try_take.Goals as goal

pub returns-in-Ok-true-clause-kept : goal.returns-in-Ok-true-clause-kept
returns-in-Ok-true-clause-kept g c =
    kept_so g.I.Keeps.invariant c.call-reply.new.slot (c.call-reply.ensures.fit tt)
