use Rattle.monitor.specs.declared.how.How.TheVariants.{Interruptible}
use Rattle.monitor_fronts.proofs.CountingDown.{falls_on, untimed_opens}
use Rattle.monitor_fronts.proofs.latch.Latch.await_zero.Goals as goal

pub returns-clause-open : goal.returns-clause-open
returns-clause-open g c =
    untimed_opens c.args.self.now.when_full (g.P.Parking.did c.args.parking.now) Interruptible c.args.pass.now
    c.acquire_as.new.pass c.acquire_as.result _ (λ t. t) c.acquire_as.ensures.called.same c.acquire_as.ensures.acquired
    c.done.ensures

pub returns-clause-falls : goal.returns-clause-falls
returns-clause-falls g c = falls_on c.args.pass.now c.acquire_as.new.pass c.acquire_as.ensures.called.begins
