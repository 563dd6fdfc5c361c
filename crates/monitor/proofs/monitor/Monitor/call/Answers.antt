use Rattle.std.proofs.Common.{rules, ◌≡◌, ◌∙◌, false, None, Ok, ℕ, ap, sym, subst}
use Rattle.monitor.specs.Below.{Entry, Recorded, Step, entry_at_once}
use Rattle.monitor.specs.Prelude.{IsUnparked, WasNotInterrupted, Brings, LetsGo, free_of, given_by, holds_of, begun, step_by, IsBegun, IsCall, IsStep, is_refused, Turn, Waiting}
use Rattle.monitor.specs.inner.Waits.{MayBegin}
use Rattle.monitor.specs.declared.machine.Next.TheVariants as next
use Rattle.monitor.proofs.Acquiring.{found_none, found_one}
use Rattle.monitor.proofs.FirstTurns.{awake_first, made_at_once, waited}
use Rattle.monitor.proofs.Freeing.{brings_still, fit_still, moves_since, stays}
use Rattle.monitor.proofs.InLine.{named_place, woken_as}
use Rattle.monitor.proofs.Loads.{refused_stays}
use Rattle.monitor.proofs.Refusals.{done_not_refused, reply_not_refused, turn_refused}
use Rattle.monitor.proofs.Sections.{called_since, quietly}
use Rattle.monitor.proofs.TurnByTurn.{Begins, begun_ends, begun_free, begun_waits, may_wait, place_first, step_as, step_gives_none, step_lets, waits_now}
use Rattle.monitor.proofs.monitor.Monitor.call.Goals.{After-first_turn-turn, After-unpark-in-None, In-Some-step_into}
use Rattle.monitor.proofs.monitor.Monitor.call.Goals as goal

pub refuse-requires-clause-interrupted : goal.refuse-requires-clause-interrupted
refuse-requires-clause-interrupted g c =
    let asked = c.at_entry.ensures in
    found_one (g.P.Parking.did c.args.parking.now) c.args.pass.now.seat c.args.how c.at_entry.result
    c.in-Some.interrupts asked.asked asked.minded c.in-Some.is

-- what was found at the entry
none : (g : _) (c : After-first_turn-turn g) →
    WasNotInterrupted (g.P.Parking.did c.args.parking.now) c.args.pass.now.seat c.args.how
none g c =
    let is : c.at_entry.result ≡ None = search rules in
    found_none (g.P.Parking.did c.args.parking.now) c.args.pass.now.seat c.args.how c.at_entry.result
    c.at_entry.ensures.asked is

-- what was begun, where the step was not done at once
begun_so : (g : _) (c : After-first_turn-turn g) → IsBegun c.args.pass.now c.args.request c.args.how
    c.moment-moment.result false c.first_turn-turn.result c.step_into.new.pass
begun_so g c = (
  c.step_into.new.answer,
  step_as c.args.pass.now c.step_into.new.pass c.step-step.result _ _ c.step-step.ensures
      c.in-None.ensures.stepped,
  c.first_turn-turn.ensures,
)

pub unpark-requires-in-None : goal.unpark-requires-in-None
unpark-requires-in-None g c =
    place_first _ _ _ _ _ _ _ _ _ c.requires.can
    (begun_so g (goal.at.unpark-requires-in-None g c).After-first_turn-turn)

-- whom that step named was unparked
woken : (g : _) (c : After-unpark-in-None g) → IsUnparked (g.P.Parking.did c.args.parking.now)
    c.args.pass.now.lock c.first_turn-turn.result.named c.step_into.new.pass.seen
woken g c =
    woken_as (g.P.Parking.did c.args.parking.now) c.args.pass.now c.step_into.new.pass
    c.first_turn-turn.result.named c.step_into.new.pass.seen c.step_into.ensures.called.same
    c.unpark-in-None.ensures

pub returns-in-Ends-clause-made : goal.returns-in-Ends-clause-made
returns-in-Ends-clause-made g c =
    begun_ends (g.P.Parking.did c.args.parking.now) c.args.pass.now c.step_into.new.pass c.args.how
    (none g (goal.at.returns-in-Ends-clause-made g c).After-first_turn-turn) c.args.request
    c.moment-moment.result c.first_turn-turn.result c.in-Ends.reply _
    (begun_so g (goal.at.returns-in-Ends-clause-made g c).After-first_turn-turn)
    (woken g (goal.at.returns-in-Ends-clause-made g c).After-unpark-in-None)
    c.in-Ends.is

-- with what it waits
began : (g : _) (c : After-unpark-in-None g) (w : Waiting) →
    IsBegun c.args.pass.now c.args.request c.args.how c.moment-moment.result false
    c.first_turn-turn.result c.step_into.new.pass → c.first_turn-turn.result.next ≡ next.Waits w →
    Begins (g.P.Parking.did c.args.parking.now) c.args.pass.now c.step_into.new.pass c.args.request c.args.how
    × (w ≡ begun c.args.request c.args.how c.moment-moment.result)
began g c w b is =
    begun_waits (g.P.Parking.did c.args.parking.now) c.args.pass.now c.step_into.new.pass c.args.request c.args.how
    c.moment-moment.result c.first_turn-turn.result w b (woken g c) is

pub wait-requires-clause-waits : goal.wait-requires-clause-waits
wait-requires-clause-waits g c =
    let x = began g (goal.at.wait-requires-clause-waits g c).After-unpark-in-None c.in-Waits.waiting
    (begun_so g (goal.at.wait-requires-clause-waits g c).After-first_turn-turn) c.in-Waits.is in
    waits_now (g.P.Parking.did c.args.parking.now) c.args.pass.now c.step_into.new.pass
    c.args.request c.args.how (none g (goal.at.wait-requires-clause-waits g c).After-first_turn-turn) x.0
    c.step_into.ensures.called.same

pub wait-requires-clause-first : goal.wait-requires-clause-first
wait-requires-clause-first g c =
    let x = began g (goal.at.wait-requires-clause-first g c).After-unpark-in-None c.in-Waits.waiting
    (begun_so g (goal.at.wait-requires-clause-first g c).After-first_turn-turn) c.in-Waits.is in
    subst (λ (w : Waiting). MayBegin w.limits w.stage) (sym x.1)
    (may_wait (g.P.Parking.did c.args.parking.now) c.args.pass.now.seen c.args.request c.args.how c.moment-moment.result
    c.moment-moment.ensures)

pub returns-in-Waits-clause-called : goal.returns-in-Waits-clause-called
returns-in-Waits-clause-called g c =
    called_since c.args.pass.now c.step_into.new.pass c.wait.new.pass (quietly _ _ c.step_into.ensures.called)
    c.wait.ensures.called

pub returns-in-Waits-clause-made : goal.returns-in-Waits-clause-made
returns-in-Waits-clause-made g c =
    waited (g.P.Parking.did c.args.parking.now) c.args.pass.now c.step_into.new.pass c.wait.new.pass c.args.request
    c.args.how c.moment-moment.result c.first_turn-turn.result c.in-Waits.waiting c.wait.result
    (none g (goal.at.returns-in-Waits-clause-made g c).After-first_turn-turn)
    (begun_so g (goal.at.returns-in-Waits-clause-made g c).After-first_turn-turn)
    (woken g (goal.at.returns-in-Waits-clause-made g c).After-unpark-in-None) c.in-Waits.is
    c.step_into.ensures.called.same c.step_into.ensures.called.shows c.moment-moment.ensures
    c.wait.ensures.called.begins c.wait.ensures.waited

pub wait-requires-clause-brings : goal.wait-requires-clause-brings
wait-requires-clause-brings g c =
    let x = began g (goal.at.wait-requires-clause-brings g c).After-unpark-in-None c.in-Waits.waiting
    (begun_so g (goal.at.wait-requires-clause-brings g c).After-first_turn-turn) c.in-Waits.is in
    let same = begun_free (g.P.Parking.did c.args.parking.now) c.args.pass.now
    c.step_into.new.pass c.args.request c.args.how
    c.step_into.ensures.called.same x.0 in
    brings_still g.L.Load.is_counted g.L.Load.amount c.args.load.now c.step_into.new.load 0
    (stays g.L.Load.fit g.L.Load.is_counted g.L.Load.amount c.args.load.now c.step_into.new.load
    (free_of c.args.pass.now) (free_of c.step_into.new.pass) same c.step_into.ensures.trades.0)
    c.requires.brings

pub returns-in-Waits-clause-moves : goal.returns-in-Waits-clause-moves
returns-in-Waits-clause-moves g c =
    let x = began g (goal.at.returns-in-Waits-clause-moves g c).After-unpark-in-None c.in-Waits.waiting
    (begun_so g (goal.at.returns-in-Waits-clause-moves g c).After-first_turn-turn) c.in-Waits.is in
    let same = begun_free (g.P.Parking.did c.args.parking.now) c.args.pass.now
    c.step_into.new.pass c.args.request c.args.how
    c.step_into.ensures.called.same x.0 in
    moves_since g.L.Load.fit g.L.Load.is_counted g.L.Load.amount c.args.load.now c.step_into.new.load c.wait.new.load
    (free_of c.args.pass.now) (free_of c.step_into.new.pass) (free_of c.wait.new.pass)
    (stays g.L.Load.fit g.L.Load.is_counted g.L.Load.amount c.args.load.now c.step_into.new.load
    (free_of c.args.pass.now) (free_of c.step_into.new.pass) same c.step_into.ensures.trades.0)
    (fit_still g.L.Load.fit g.L.Load.is_counted g.L.Load.amount c.args.load.now c.step_into.new.load _ _
    c.step_into.ensures.trades.0)
    same c.wait.ensures.moves

pub first_turn-turn-requires : goal.first_turn-turn-requires
first_turn-turn-requires g c =
    awake_first c.args.pass.now c.step_into.new.pass c.args.request c.args.how false
    c.step_into.new.answer
    (step_as c.args.pass.now c.step_into.new.pass c.step-step.result _ _ c.step-step.ensures
    c.in-None.ensures.stepped)

pub step_into-requires-clause-brings : goal.step_into-requires-clause-brings
step_into-requires-clause-brings g c =
    subst (λ (n : ℕ). Brings g.L.Load.is_counted (g.L.Load.amount c.args.load.now) n)
    (sym (ap given_by c.step-step.ensures ∙ step_gives_none c.args.request c.args.how false)) c.requires.brings

pub step_into-requires-clause-fit : goal.step_into-requires-clause-fit
step_into-requires-clause-fit g c = λ go.
    c.requires.fit (step_lets c.args.request c.args.how false (holds_of c.args.pass.now)
    (subst (λ (z : Step). LetsGo z (holds_of c.args.pass.now)) c.step-step.ensures go))

-- a step that was done at once is that of the request
done_so : (g : _) (c : In-Some-step_into g) → IsStep c.args.pass.now
    (step_by c.args.request c.args.how false)
    (Ok (Recorded (entry_at_once c.args.pass.now.seat (step_by c.args.request c.args.how false)) c.in-Some-step_into.named))
    c.step_into.new.pass
done_so g c =
    subst (λ (z : Step). IsStep c.args.pass.now z
    (Ok (Recorded (entry_at_once c.args.pass.now.seat z) c.in-Some-step_into.named)) c.step_into.new.pass) c.step-step.ensures
    c.in-Some-step_into.ensures.stepped

pub unpark-requires : goal.unpark-requires
unpark-requires g c =
    named_place _ _ _ _ _ _ c.requires.can (done_so g (goal.at.unpark-requires g c).In-Some-step_into)

pub returns-in-Some-step_into-clause-made : goal.returns-in-Some-step_into-clause-made
returns-in-Some-step_into-clause-made g c =
    let did = g.P.Parking.did c.args.parking.now in
    let at = goal.at.returns-in-Some-step_into-clause-made g c in
    let is : c.at_entry.result ≡ None = search rules in
    subst (λ (e : Entry). IsCall did c.args.pass.now c.args.request c.args.how (Ok e)
    c.step_into.new.pass)
    (sym (c.entry_at_once.ensures
    ∙ (ap (λ i. entry_at_once i c.step-step.result) (c.seat.ensures ∙ c.step_into.ensures.called.same.seat)
    ∙ ap (entry_at_once c.args.pass.now.seat) c.step-step.ensures)))
    (made_at_once did c.args.pass.now c.step_into.new.pass c.args.request c.args.how c.in-Some-step_into.named
    (found_none did c.args.pass.now.seat c.args.how c.at_entry.result c.at_entry.ensures.asked is)
    (done_so g at.In-Some-step_into)
    (woken_as did c.args.pass.now c.step_into.new.pass c.in-Some-step_into.named c.step_into.new.pass.seen
    c.step_into.ensures.called.same c.unpark.ensures))

pub returns-in-Some-step_into-clause-stays : goal.returns-in-Some-step_into-clause-stays
returns-in-Some-step_into-clause-stays g c = λ refused.
    let not_so = ap (λ (e : Entry). is_refused e.word) c.entry_at_once.ensures ∙ done_not_refused _ _ in cc

pub returns-in-Ends-clause-stays : goal.returns-in-Ends-clause-stays
unfolding begun_so
returns-in-Ends-clause-stays g c = λ refused.
    let b = begun_so g (goal.at.returns-in-Ends-clause-stays g c).After-first_turn-turn in
    refused_stays g.L.Load.fit g.L.Load.is_counted g.L.Load.amount c.args.load.now c.step_into.new.load
    c.args.pass.now c.step_into.new.pass (step_by c.args.request c.args.how false) c.step_into.new.answer
    c.step_into.ensures.called.same b.1
    (turn_refused c.args.request c.args.how c.moment-moment.result false c.step_into.new.answer c.in-Ends.reply _
    (ap (λ (z : Turn). z.next) (sym c.first_turn-turn.ensures) ∙ c.in-Ends.is) refused) c.step_into.ensures.trades

pub returns-in-Some-step_into-clause-moves : goal.returns-in-Some-step_into-clause-moves
returns-in-Some-step_into-clause-moves g c = c.step_into.ensures.trades.0

pub returns-in-Ends-clause-moves : goal.returns-in-Ends-clause-moves
returns-in-Ends-clause-moves g c = c.step_into.ensures.trades.0

pub returns-in-Waits-clause-stays : goal.returns-in-Waits-clause-stays
returns-in-Waits-clause-stays g c = λ refused.
    let did = g.P.Parking.did c.args.parking.now in
    let x = began g (goal.at.returns-in-Waits-clause-stays g c).After-unpark-in-None c.in-Waits.waiting
    (begun_so g (goal.at.returns-in-Waits-clause-stays g c).After-first_turn-turn) c.in-Waits.is in
    absurd (reply_not_refused did c.step_into.new.pass c.in-Waits.waiting.stage c.in-Waits.waiting.limits c.wait.result
    c.wait.new.pass (waits_now did c.args.pass.now c.step_into.new.pass c.args.request c.args.how
    (none g (goal.at.returns-in-Waits-clause-stays g c).After-first_turn-turn) x.0
    c.step_into.ensures.called.same) c.wait.ensures.waited refused)
