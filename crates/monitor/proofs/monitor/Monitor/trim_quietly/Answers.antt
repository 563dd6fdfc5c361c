use Rattle.std.proofs.Common.{rules, ◌≡◌, subst, sym}
use Rattle.monitor.specs.Below.{held_ticket, Ticket}
use Rattle.monitor.specs.Prelude.{CalledQuietly, point_of, Shown, shown}
use Rattle.monitor.proofs.Sections.{not_called}
use Rattle.monitor.proofs.Trims.{Trim, follows_trimmed, trim_called, trim_is, trim_of, trim_pass}
use Rattle.monitor.proofs.monitor.Monitor.trim_quietly.Goals as goal

pub unlock_quietly-requires-clause-follows : goal.unlock_quietly-requires-clause-follows
unlock_quietly-requires-clause-follows g c =
    follows_trimmed c.pass.inside.token _ c.in-Some.held.value.laden.value.core _ _ c.pass.inside.share
    c.trim-count.result c.in-Some.ensures.taken.1 c.pass.invariant c.in-Some.ensures.fact.0
    c.trim-count.ensures.kept c.trim-count.ensures.trimmed

trims : (g : _) (c : goal.After-unlock_quietly g) → Trim c.pass.inside.token (held_ticket c.in-Some.held)
    c.unlock_quietly.new.token (point_of c.in-Some.held.value.laden.value.core)
    (point_of c.trim-count.new.self.laden.value.core) c.pass.inside.seat c.pass.inside.share
    c.trim-count.result
trims g c =
    trim_of _ _ c.in-Some.held.value.laden.value.core c.trim-count.new.self.laden.value.core _ _ _ _
    c.in-Some.ensures.taken.1 c.unlock_quietly.ensures c.pass.invariant c.in-Some.ensures.begins
    c.in-Some.ensures.entries c.in-Some.ensures.fact.0 c.trim-count.ensures.kept c.trim-count.ensures.trimmed

pub invariant_of-pass-2 : goal.invariant_of-pass-2
invariant_of-pass-2 g c = trim_pass _ _ _ _ _ _ _ _ (trims g c)

pub returns-clause-trimmed : goal.returns-clause-trimmed
returns-clause-trimmed g c = rw (← c.pass.view_is) (trim_is _ _ _ _ _ _ _ _ (trims g c))

pub returns-clause-called : goal.returns-clause-called
returns-clause-called g c = rw (← c.pass.view_is) (trim_called _ _ _ _ _ _ _ _ (trims g c))

pub returns-in_default-clause-called : goal.returns-in_default-clause-called
returns-in_default-clause-called g c =
    let same : c.lock_now.new.token ≡ c.pass.inside.token = search rules in
    subst (λ (s : Shown). CalledQuietly s (shown c.lock_now.new.token c.pass.inside.seat c.pass.inside.share)) c.pass.view_is
    (subst (λ (t : Ticket). CalledQuietly (shown c.pass.inside.token c.pass.inside.seat c.pass.inside.share)
    (shown t c.pass.inside.seat c.pass.inside.share)) (sym same) (not_called _ c.pass.invariant.shows))
