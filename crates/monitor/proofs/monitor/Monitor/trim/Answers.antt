use Rattle.word_lock.specs.Held.{held_ticket}
use Rattle.monitor.specs.Lawful.{point_of}
use Rattle.monitor.proofs.Sections.{call_woken}
use Rattle.monitor.proofs.Trims.{Trim, follows_trimmed, trim_called, trim_is, trim_of, trim_pass}
use Rattle.monitor.proofs.monitor.Monitor.trim.Goals as goal

pub unlock-requires-clause-follows : goal.unlock-requires-clause-follows
unlock-requires-clause-follows g c =
    follows_trimmed c.pass.inside.token _ c.lock-held.result.value.laden.value.core _ _ c.pass.inside.share
    c.trim-count.result c.lock-held.ensures.taken.1 c.pass.invariant c.lock-held.ensures.fact.0
    c.trim-count.ensures.kept c.trim-count.ensures.trimmed

trims : (g : _) (c : goal.After-unlock g) → Trim c.pass.inside.token (held_ticket c.lock-held.result)
    c.unlock.new.token (point_of c.lock-held.result.value.laden.value.core)
    (point_of c.trim-count.new.self.laden.value.core) c.pass.inside.seat c.pass.inside.share
    c.trim-count.result
trims g c =
    trim_of _ _ c.lock-held.result.value.laden.value.core c.trim-count.new.self.laden.value.core _ _ _ _
    c.lock-held.ensures.taken.1 c.unlock.ensures.token c.pass.invariant c.lock-held.ensures.begins
    c.lock-held.ensures.entries c.lock-held.ensures.fact.0 c.trim-count.ensures.kept c.trim-count.ensures.trimmed

pub invariant_of-pass : goal.invariant_of-pass
invariant_of-pass g c = trim_pass _ _ _ _ _ _ _ _ (trims g c)

pub returns-clause-trimmed : goal.returns-clause-trimmed
returns-clause-trimmed g c = rw (← c.pass.view_is) (trim_is _ _ _ _ _ _ _ _ (trims g c))

pub returns-clause-called : goal.returns-clause-called
returns-clause-called g c =
    rw (← c.pass.view_is) (call_woken _ _ (trim_called _ _ _ _ _ _ _ _ (trims g c)) c.unlock.ensures.woken)
