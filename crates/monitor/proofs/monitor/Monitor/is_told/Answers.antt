use Rattle.std.proofs.Common.{◌≡◌, ◌<◌, ◌∙◌, true, Some, ap, subst, sym}
use Rattle.monitor.specs.Below.{CoreView, marks_of, Header, Point, line, place_of, is_placed, ready, held_ticket, LockId}
use Rattle.monitor.specs.Lawful.{point_of, start_at}
use Rattle.monitor.proofs.Looking.{Looked, look, look_woken, may_give_back}
use Rattle.monitor.proofs.Sections.{seat_below}
use Rattle.monitor.proofs.monitor.Monitor.is_told.Goals as goal

pub is_told-is_told-requires : goal.is_told-is_told-requires
is_told-is_told-requires g c =
    subst (λ (v : CoreView). c.args.seat < v.header.seats) (sym c.core.ensures)
    (subst (λ (k : Header). c.args.seat < k.seats) c.lock-held.ensures.fact.0.header
    (seat_below (point_of c.lock-held.result.value.laden.value.core) _ c.args.self.now.header c.args.seat
    c.lock-held.ensures.header (ap (λ (l : LockId). l.header) c.self.view_is) c.requires.seat))

pub unlock-requires-clause-follows : goal.unlock-requires-clause-follows
unlock-requires-clause-follows g c =
    may_give_back _ c.pass.inside.token _ _ c.pass.inside.share c.lock-held.ensures.taken.1 c.pass.invariant

looked : (g : _) (c : goal.After-unlock g) → Looked c.pass.inside.token c.unlock.new.token
    (point_of c.lock-held.result.value.laden.value.core) c.pass.inside.seat c.pass.inside.share
looked g c =
    look _ (held_ticket c.lock-held.result) _ _ _ _ c.lock-held.ensures.taken.1 c.unlock.ensures.token
    c.pass.invariant c.lock-held.ensures.begins c.lock-held.ensures.entries c.lock-held.ensures.fact.0.lawful

pub invariant_of-pass : goal.invariant_of-pass
invariant_of-pass g c = (looked g c).pass

pub returns-clause-looked : goal.returns-clause-looked
returns-clause-looked g c =
    rw (← c.pass.view_is) (look_woken _ _ (looked g c).is c.unlock.ensures.woken)

-- the mark that the core has
mark_of : (g : _) (c : goal.After-unlock g) →
    c.is_told-is_told.result ≡ marks_of c.lock-held.result.value.laden.value.core c.args.seat
mark_of g c =
    c.is_told-is_told.ensures ∙ ap (λ (v : CoreView). marks_of v c.args.seat) c.core.ensures

pub returns-clause-told : goal.returns-clause-told
returns-clause-told g c = λ r.
    mark_of g c
    ∙ c.lock-held.ensures.fact.0.told.told c.args.seat
    (subst (λ (z : Point). ready (start_at z) z.entries ≡ Some c.args.seat) (looked g c).seen r)

pub returns-clause-stand : goal.returns-clause-stand
returns-clause-stand g c = λ t.
    subst (λ (z : Point). is_placed (place_of c.args.seat (line (start_at z) z.entries)) ≡ true)
    (sym (looked g c).seen)
    (c.lock-held.ensures.fact.0.told.stand c.args.seat (sym (mark_of g c) ∙ t))
