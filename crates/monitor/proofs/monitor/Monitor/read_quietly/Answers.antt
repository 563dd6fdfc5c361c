use Rattle.std.proofs.Common.{Some, refl, sym, ap, ◌∙◌}
use Rattle.std.proofs.lemmas.Fn.{gave_at}
use Rattle.monitor.specs.Below.{Point, held_ticket}
use Rattle.monitor.specs.Lawful.{point_of}
use Rattle.monitor.proofs.Looking.{Looked, look, may_give_back}
use Rattle.monitor.proofs.monitor.Monitor.read_quietly.Goals as goal

pub unlock_quietly-requires-clause-follows : goal.unlock_quietly-requires-clause-follows
unlock_quietly-requires-clause-follows g c =
    may_give_back _ c.pass.inside.token _ _ c.pass.inside.share c.in-Some.ensures.taken.1 c.pass.invariant

looked : (g : _) (c : goal.After-unlock_quietly g) → Looked c.pass.inside.token c.unlock_quietly.new.token
    (point_of c.in-Some.held.value.laden.value.core) c.pass.inside.seat c.pass.inside.share
looked g c =
    look _ (held_ticket c.in-Some.held) _ _ _ _ c.in-Some.ensures.taken.1 c.unlock_quietly.ensures
    c.pass.invariant c.in-Some.ensures.begins c.in-Some.ensures.entries c.in-Some.ensures.fact.0.lawful

pub invariant_of-pass-2 : goal.invariant_of-pass-2
invariant_of-pass-2 g c = (looked g c).pass

pub returns-clause-looked : goal.returns-clause-looked
returns-clause-looked g c = rw (← c.pass.view_is) ((looked g c).is)

pub returns-clause-saw : goal.returns-clause-saw
returns-clause-saw g c =
    let core = ap point_of c.core.ensures in
    let seen = core ∙ sym (looked g c).seen in (
      c.history.result.now,
      (
        c.history.ensures.base ∙ ap (λ (p : Point). Some p.base) seen,
        c.history.ensures.entries ∙ ap (λ (p : Point). p.entries) seen,
      ),
      gave_at g.F.FnOnce c.read-answer.ensures refl,
    )
