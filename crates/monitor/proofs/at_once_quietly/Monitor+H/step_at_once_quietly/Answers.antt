use Rattle.std.proofs.Common.{rules, ◌≡◌, ◌∙◌, Ok, ap, sym, subst}
use Rattle.monitor.specs.Below.{Recorded, entry_at_once, CoreView, Follows, after_unlock, first_seat, held_ticket, Ticket}
use Rattle.monitor.specs.Prelude.{point_of, CalledQuietly, IsQuietLook, IsStep, Shown, shown}
use Rattle.monitor.specs.inner.Sections.{Taking, Went}
use Rattle.monitor.proofs.Around.{went}
use Rattle.monitor.proofs.FastWay.{one_more}
use Rattle.monitor.proofs.Looking.{Looked, look, looked_quietly, may_give_back, not_looked}
use Rattle.monitor.proofs.Taking.{follows_made, seat_taken, share_fits}
use Rattle.monitor.proofs.at_once_quietly.Monitor+H.step_at_once_quietly.Goals.{After-one_call_more-pass-inside, After-unlock_quietly-in-None, In-Some, In_default}
use Rattle.monitor.proofs.at_once_quietly.Monitor+H.step_at_once_quietly.Goals as goal

took : (g : _) (c : In-Some g) → Taking c.pass.inside.token (held_ticket c.in-Some.held)
    c.in-Some.held.value.laden.value.core c.pass.inside.seat c.pass.inside.share
took g c =
    let e = c.in-Some.ensures in
    record { taken = e.taken.1; was = c.pass.invariant; begins = e.begins; entries = e.entries; kept = e.fact.0 }

pub step_at_once-requires-clause-seat : goal.step_at_once-requires-clause-seat
step_at_once-requires-clause-seat g c =
    seat_taken _ _ _ _ _ (took g (goal.at.step_at_once-requires-clause-seat g c).In-Some)

pub unlock_quietly-requires-clause-follows : goal.unlock_quietly-requires-clause-follows
unlock_quietly-requires-clause-follows g c =
    follows_made c.pass.inside.token _ c.in-Some.held.value.laden.value.core _ _ c.pass.inside.share
    c.args.step _ c.in-Some.ensures.taken.1 c.pass.invariant c.in-Some.ensures.fact.0
    c.in-Some-step_at_once.ensures.kept c.in-Some-step_at_once.ensures.done.answered

pub one_call_more-pass-inside-requires : goal.one_call_more-pass-inside-requires
one_call_more-pass-inside-requires g c = share_fits _ _ _ c.pass.invariant

-- a step that was done at once
done : (g : _) (c : After-one_call_more-pass-inside g) → Went c.pass.inside.token
    c.unlock_quietly.new.token c.pass.inside.seat c.pass.inside.share c.one_call_more-pass-inside.result c.args.step
    (Ok (Recorded (entry_at_once c.pass.inside.seat c.args.step) c.in-Some-step_at_once.named))
done g c =
    let e = c.in-Some.ensures in
    went c.pass.inside.token (held_ticket c.in-Some.held) c.unlock_quietly.new.token
    c.in-Some.held.value.laden.value.core c.step_at_once.new.self.laden.value.core c.pass.inside.seat
    c.pass.inside.share record {
      took = record { taken = e.taken.1; was = c.pass.invariant; begins = e.begins; entries = e.entries; kept = e.fact.0 };
      given = c.unlock_quietly.ensures;
      kept = c.in-Some-step_at_once.ensures.kept;
    } c.args.step _ c.in-Some-step_at_once.ensures.done
    c.one_call_more-pass-inside.result
    (one_more c.pass.inside.seat c.args.step c.in-Some-step_at_once.named c.one_call_more-pass-inside.result
    c.pass.inside.share c.one_call_more-pass-inside.ensures)

pub invariant_of-pass-in-Some-step_at_once : goal.invariant_of-pass-in-Some-step_at_once
invariant_of-pass-in-Some-step_at_once g c =
    (done g (goal.at.invariant_of-pass-in-Some-step_at_once g c).After-one_call_more-pass-inside).pass

pub returns-in-Some-step_at_once-clause-called : goal.returns-in-Some-step_at_once-clause-called
returns-in-Some-step_at_once-clause-called g c =
    subst (λ (s : Shown). CalledQuietly s (shown c.unlock_quietly.new.token c.pass.inside.seat c.one_call_more-pass-inside.result))
    c.pass.view_is
    (done g (goal.at.returns-in-Some-step_at_once-clause-called g c).After-one_call_more-pass-inside).called

pub returns-in-Some-step_at_once-clause-stepped : goal.returns-in-Some-step_at_once-clause-stepped
returns-in-Some-step_at_once-clause-stepped g c =
    let at = (goal.at.returns-in-Some-step_at_once-clause-stepped g c).After-one_call_more-pass-inside in
    subst (λ (s : Shown). IsStep s c.args.step
    (Ok (Recorded (entry_at_once s.seat c.args.step) c.in-Some-step_at_once.named))
    (shown c.unlock_quietly.new.token c.pass.inside.seat c.one_call_more-pass-inside.result)) c.pass.view_is
    (done g at).stepped

-- one that wasn't
pub unlock_quietly-requires-in-None-clause-follows : goal.unlock_quietly-requires-in-None-clause-follows
unlock_quietly-requires-in-None-clause-follows g c =
    let o = held_ticket c.in-Some.held in
    subst (λ (v : CoreView). Follows (first_seat o.logs) o.seen (point_of v)) (sym c.in-None.ensures.same)
    (may_give_back _ c.pass.inside.token _ _ c.pass.inside.share c.in-Some.ensures.taken.1 c.pass.invariant)

looked : (g : _) (c : After-unlock_quietly-in-None g) → Looked c.pass.inside.token c.unlock_quietly-in-None.new.token
    (point_of c.in-Some.held.value.laden.value.core) c.pass.inside.seat c.pass.inside.share
looked g c =
    let o = held_ticket c.in-Some.held in
    let given = c.unlock_quietly-in-None.ensures
    ∙ ap (λ (v : CoreView). after_unlock o (point_of v)) c.in-None.ensures.same in
    look _ o _ _ _ _ c.in-Some.ensures.taken.1 given c.pass.invariant c.in-Some.ensures.begins
    c.in-Some.ensures.entries c.in-Some.ensures.fact.0.lawful

pub invariant_of-pass-in-None : goal.invariant_of-pass-in-None
invariant_of-pass-in-None g c =
    (looked g (goal.at.invariant_of-pass-in-None g c).After-unlock_quietly-in-None).pass

pub returns-in-None-clause-looked : goal.returns-in-None-clause-looked
returns-in-None-clause-looked g c =
    rw (← c.pass.view_is) ((looked g (goal.at.returns-in-None-clause-looked g c).After-unlock_quietly-in-None).is)

pub returns-in-None-clause-called : goal.returns-in-None-clause-called
returns-in-None-clause-called g c =
    rw (← c.pass.view_is)
    (looked_quietly _ _ (looked g (goal.at.returns-in-None-clause-called g c).After-unlock_quietly-in-None).is)

-- one for which the object was busy
same : (g : _) (c : In_default g) → IsQuietLook c.args.pass.now (shown c.lock_now.new.token c.pass.inside.seat
    c.pass.inside.share)
same g c =
    let is : c.lock_now.new.token ≡ c.pass.inside.token = search rules in
    subst (λ (s : Shown). IsQuietLook s (shown c.lock_now.new.token c.pass.inside.seat c.pass.inside.share)) c.pass.view_is
    (subst (λ (t : Ticket). IsQuietLook (shown c.pass.inside.token c.pass.inside.seat c.pass.inside.share)
    (shown t c.pass.inside.seat c.pass.inside.share)) (sym is) (not_looked _ c.pass.invariant.shows))

pub returns-in_default-clause-looked : goal.returns-in_default-clause-looked
returns-in_default-clause-looked g c = same g (goal.at.returns-in_default-clause-looked g c).In_default

pub returns-in_default-clause-called : goal.returns-in_default-clause-called
returns-in_default-clause-called g c =
    looked_quietly _ _ (same g (goal.at.returns-in_default-clause-called g c).In_default)
