use Rattle.word_lock.specs.Held.{held_ticket}
use Rattle.monitor.specs.Lawful.{point_of}
use Rattle.monitor.proofs.Looking.{Looked, look, look_woken, may_give_back}
use Rattle.monitor.proofs.monitor.Monitor.is_held.Goals as goal

pub unlock-requires-clause-follows : goal.unlock-requires-clause-follows
unlock-requires-clause-follows g c =
    may_give_back _ c.pass.inside.token _ _ c.pass.inside.share c.lock-held.ensures.taken.1 c.pass.invariant

looked : (g : _) (c : goal.After-unlock g) → Looked c.pass.inside.token c.unlock.new.token
    (point_of c.lock-held.result.value.laden.value.core) c.pass.inside.seat c.pass.inside.share
looked g c =
    look _ (held_ticket c.lock-held.result) _ _ _ _ c.lock-held.ensures.taken.1 c.unlock.ensures.token
    c.pass.invariant c.lock-held.ensures.begins c.lock-held.ensures.entries c.lock-held.ensures.fact.0.lawful

pub invariant_of-pass : goal.invariant_of-pass
invariant_of-pass g c = (looked g c).pass

pub returns-clause-looked : goal.returns-clause-looked
returns-clause-looked g c =
    rw (← c.pass.view_is) (look_woken _ _ (looked g c).is c.unlock.ensures.woken)
