use Rattle.std.proofs.Common.{◌≡◌, ◌<◌, ◌∙◌, true, ap, sym, subst, Ok, Result, IfSome}
use Rattle.monitor.specs.Below.{Entry, Fault, Answer, Recorded, entry_at_once}
use Rattle.monitor.specs.Load.{is_refused, was_refused}
use Rattle.monitor.specs.Stepping.{IsEntered, IsStep}
use Rattle.monitor.specs.inner.Stepping.{named_in}
use Rattle.monitor.proofs.FirstTurns.{awake, entered_in}
use Rattle.monitor.proofs.InLine.{named_place, woken_as}
use Rattle.monitor.proofs.Loads.{refused_stays}
use Rattle.monitor.proofs.Refusals.{done_not_refused}
use Rattle.monitor.proofs.monitor.Monitor.enter.Goals.{After-step_into}
use Rattle.monitor.proofs.monitor.Monitor.enter.Goals as goal

-- whom the step named has a place
placed : (g : _) (c : After-step_into g) (r : Result Answer Fault) →
    IsStep c.args.pass.now c.args.step r c.step_into.new.pass →
    IfSome (named_in r) (λ j. j < g.P.Parking.seats c.args.parking.now)
placed g c r stepped = named_place _ _ _ _ r _ c.requires.can stepped

pub unpark-requires : goal.unpark-requires
unpark-requires g c =
    placed g (goal.at.unpark-requires g c).After-step_into
    (Ok (Recorded (entry_at_once c.args.pass.now.seat c.args.step) c.in-Some.named)) c.in-Some.ensures.stepped

pub returns-in-Some-clause-entered : goal.returns-in-Some-clause-entered
returns-in-Some-clause-entered g c =
    let did = g.P.Parking.did c.args.parking.now in
    subst (λ (e : Entry). IsEntered did c.args.pass.now c.args.step (Ok e) c.step_into.new.pass)
    (sym (c.entry_at_once.ensures
    ∙ ap (λ i. entry_at_once i c.args.step) (c.seat.ensures ∙ c.step_into.ensures.called.same.seat))) (
      c.in-Some.named,
      c.in-Some.ensures.stepped,
      (woken_as did c.args.pass.now c.step_into.new.pass c.in-Some.named c.step_into.new.pass.seen
          c.step_into.ensures.called.same c.unpark.ensures),
    )

pub entered-requires-clause-places : goal.entered-requires-clause-places
entered-requires-clause-places g c =
    placed g (goal.at.entered-requires-clause-places g c).After-step_into c.step_into.new.answer
    c.in-None.ensures.stepped

pub entered-requires-clause-awake : goal.entered-requires-clause-awake
entered-requires-clause-awake g c =
    awake c.args.pass.now c.step_into.new.pass c.args.step c.step_into.new.answer
    c.requires.idle c.in-None.ensures.stepped

pub returns-in-None-clause-entered : goal.returns-in-None-clause-entered
returns-in-None-clause-entered g c =
    let did = g.P.Parking.did c.args.parking.now in
    subst (λ (r : Result Entry Fault). IsEntered did c.args.pass.now c.args.step r
    c.step_into.new.pass) (sym c.entered.ensures.entry)
    (entered_in did c.args.pass.now c.step_into.new.pass c.args.step c.step_into.new.answer
    c.requires.idle
    (woken_as did c.args.pass.now c.step_into.new.pass (named_in c.step_into.new.answer) c.step_into.new.pass.seen
    c.step_into.ensures.called.same c.entered.ensures.unparked) c.in-None.ensures.stepped)

pub returns-in-Some-clause-stays : goal.returns-in-Some-clause-stays
returns-in-Some-clause-stays g c = λ refused.
    let not_so = ap (λ (e : Entry). is_refused e.word) c.entry_at_once.ensures ∙ done_not_refused _ _ in cc

pub returns-in-None-clause-stays : goal.returns-in-None-clause-stays
returns-in-None-clause-stays g c = λ refused.
    refused_stays g.L.Load.fit g.L.Load.is_counted g.L.Load.amount c.args.load.now c.step_into.new.load
    c.args.pass.now c.step_into.new.pass c.args.step c.step_into.new.answer c.step_into.ensures.called.same
    c.in-None.ensures.stepped
    (subst (λ (r : Result Entry Fault). was_refused r ≡ true) c.entered.ensures.entry refused)
    c.step_into.ensures.trades

pub returns-in-Some-clause-moves : goal.returns-in-Some-clause-moves
returns-in-Some-clause-moves g c = c.step_into.ensures.trades.0

pub returns-in-None-clause-moves : goal.returns-in-None-clause-moves
returns-in-None-clause-moves g c = c.step_into.ensures.trades.0
