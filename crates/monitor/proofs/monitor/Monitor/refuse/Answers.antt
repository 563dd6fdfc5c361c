use Rattle.std.proofs.Common.{◌∙◌, ap, sym, subst, true}
use Rattle.monitor.specs.Below.{interrupted}
use Rattle.monitor.specs.Prelude.{Turn, step_by}
use Rattle.monitor.proofs.InLine.{woken_as}
use Rattle.monitor.proofs.Loads.{refused_stays}
use Rattle.monitor.proofs.Refusals.{turn_refused}
use Rattle.monitor.proofs.TurnByTurn.{begun_refused, never_waits, place_first}
use Rattle.monitor.proofs.monitor.Monitor.refuse.Goals as goal

pub unpark-requires : goal.unpark-requires
unpark-requires g c =
    place_first _ _ _ c.args.request c.args.how 0 true _ _ c.requires.can c.begin-refusal.ensures.begun

pub unreachable-requires : goal.unreachable-requires
unreachable-requires g c =
    never_waits c.args.pass.now c.begin-refusal.new.pass c.args.request c.args.how 0 c.begin-refusal.result _
    c.begin-refusal.ensures.begun c.in-Waits.is

pub returns-clause-made : goal.returns-clause-made
returns-clause-made g c =
    begun_refused (g.P.Parking.did c.args.parking.now) c.args.pass.now c.begin-refusal.new.pass c.args.how
    c.requires.interrupted c.args.request 0 c.begin-refusal.result c.in-Ends.reply _ c.begin-refusal.ensures.begun
    (woken_as (g.P.Parking.did c.args.parking.now) c.args.pass.now c.begin-refusal.new.pass
    c.begin-refusal.result.named c.begin-refusal.new.pass.seen c.begin-refusal.ensures.called.same c.unpark.ensures)
    (λ untold. subst (λ i. g.P.Parking.did c.args.parking.now (interrupted i)) c.requires.taken.0
    (c.settle.ensures.again c.requires.taken.1 untold)) c.in-Ends.is

pub returns-clause-moves : goal.returns-clause-moves
returns-clause-moves g c = c.begin-refusal.ensures.trades.0

pub returns-clause-stays : goal.returns-clause-stays
returns-clause-stays g c = λ refused.
    let b = c.begin-refusal.ensures.begun in
    refused_stays g.L.Load.fit g.L.Load.is_counted g.L.Load.amount c.args.load.now c.begin-refusal.new.load
    c.args.pass.now c.begin-refusal.new.pass (step_by c.args.request c.args.how true) b.0
    c.begin-refusal.ensures.called.same b.1
    (turn_refused c.args.request c.args.how 0 true b.0 c.in-Ends.reply _
    (ap (λ (z : Turn). z.next) (sym b.2) ∙ c.in-Ends.is) refused) c.begin-refusal.ensures.trades
