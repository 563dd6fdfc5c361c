use Rattle.monitor.specs.declared.how.How.TheVariants.{Plain}
use Rattle.monitor_fronts.proofs.Permits.{untimed_takes, untimed_takes_free}
use Rattle.monitor_fronts.proofs.semaphore.Semaphore.acquire_uninterruptibly.Goals as goal

pub returns-clause-takes : goal.returns-clause-takes
returns-clause-takes g c =
    untimed_takes c.args.self.now.when_full (g.P.Parking.did c.args.parking.now) c.args.n Plain
    c.args.pass.now c.acquire_as.new.pass c.acquire_as.result _ (λ t. t)
    c.acquire_as.ensures.called.same c.acquire_as.ensures.acquired c.done.ensures

pub returns-clause-free : goal.returns-clause-free
returns-clause-free g c =
    untimed_takes_free c.args.self.now.when_full (g.P.Parking.did c.args.parking.now) c.args.n Plain
    c.args.pass.now c.acquire_as.new.pass c.acquire_as.result _ (λ t. t)
    c.acquire_as.ensures.called.same c.acquire_as.ensures.called.shows c.acquire_as.ensures.acquired c.done.ensures
