use Rattle.std.proofs.Common.{◌∙◌, ap, sym}
use Rattle.monitor_fronts.specs.Below.{is_latch, LockId, Timed}
use Rattle.monitor_fronts.proofs.CountingDown.{awaits_open, awaits_shut, falls_on}
use Rattle.monitor_fronts.proofs.latch.Latch.await_zero_for.Goals as goal

pub returns-clause-open : goal.returns-clause-open
returns-clause-open g c = λ told.
    awaits_open c.args.self.now.when_full (g.P.Parking.did c.args.parking.now) (Timed c.args.ms) c.args.pass.now
    c.acquire_as.new.pass c.acquire_as.result c.acquire_as.ensures.called.same c.acquire_as.ensures.acquired
    (sym c.whether.ensures ∙ told)

pub returns-clause-shut : goal.returns-clause-shut
returns-clause-shut g c = λ latch told.
    awaits_shut c.args.self.now.when_full (g.P.Parking.did c.args.parking.now) (Timed c.args.ms) c.args.pass.now
    c.acquire_as.new.pass c.acquire_as.result
    (ap (λ (l : LockId). is_latch l.header.object) c.requires.can.is_of ∙ latch) c.acquire_as.ensures.called.same
    c.acquire_as.ensures.called.shows c.acquire_as.ensures.acquired (sym c.whether.ensures ∙ told)

pub returns-clause-falls : goal.returns-clause-falls
returns-clause-falls g c = falls_on c.args.pass.now c.acquire_as.new.pass c.acquire_as.ensures.called.begins
