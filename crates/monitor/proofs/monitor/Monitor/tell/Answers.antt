use Rattle.std.proofs.Common.{◌≡◌, Ok, rules, subst}
use Rattle.monitor.specs.Below.{Answer, Sleep}
use Rattle.monitor.specs.Prelude.{IsStep, IsUnparked}
use Rattle.monitor.specs.inner.Stepping.{named_in}
use Rattle.monitor.proofs.InLine.{woken_as}
use Rattle.monitor.proofs.Loads.{signal_idle}
use Rattle.monitor.proofs.FirstTurns.{awake}
use Rattle.monitor.proofs.monitor.Monitor.tell.Goals as goal

pub unreachable-requires : goal.unreachable-requires
unreachable-requires g c =
    let is : c.signal_call.result ≡ Ok Sleep = search rules in
    awake c.args.pass.now c.signal_call.new.pass c.args.step c.signal_call.result
    (signal_idle c.args.step c.requires.signals) c.signal_call.ensures.stepped is

pub returns-in-Ok-Recorded-clause-entered : goal.returns-in-Ok-Recorded-clause-entered
returns-in-Ok-Recorded-clause-entered g c = (
  c.in-Ok-Recorded.field-0-1,
  subst (λ (z : Answer). IsStep c.args.pass.now c.args.step (Ok z) c.signal_call.new.pass)
      c.in-Ok-Recorded.field-0-is c.in-Ok-Recorded.ensures.stepped,
  subst (λ (z : Answer). IsUnparked (g.P.Parking.did c.args.parking.now) c.args.pass.now.lock (named_in (Ok z))
      c.signal_call.new.pass.seen) c.in-Ok-Recorded.field-0-is
      (woken_as (g.P.Parking.did c.args.parking.now) c.args.pass.now c.signal_call.new.pass
      (named_in (Ok c.in-Ok-Recorded.field-0)) c.signal_call.new.pass.seen c.signal_call.ensures.called.same
      c.in-Ok-Recorded.ensures.unparked),
)

pub returns-in-Err-clause-entered : goal.returns-in-Err-clause-entered
returns-in-Err-clause-entered g c =
    c.in-Err.ensures.stepped
