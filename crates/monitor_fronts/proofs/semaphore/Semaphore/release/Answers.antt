use Rattle.monitor_fronts.proofs.Permits.{release_gives, release_gives_free}
use Rattle.monitor_fronts.proofs.semaphore.Semaphore.release.Goals as goal

pub returns-clause-gives : goal.returns-clause-gives
returns-clause-gives g c =
    release_gives c.args.self.now.when_full (g.P.Parking.did c.args.parking.now) c.args.n c.args.pass.now
    c.enter.new.pass c.enter.result _ c.enter.ensures.called.same c.enter.ensures.called.shows c.enter.ensures.entered
    c.done.ensures

pub returns-clause-free : goal.returns-clause-free
returns-clause-free g c =
    release_gives_free c.args.self.now.when_full (g.P.Parking.did c.args.parking.now) c.args.n c.args.pass.now
    c.enter.new.pass c.enter.result _ c.enter.ensures.called.same c.enter.ensures.called.shows c.enter.ensures.entered
    c.done.ensures
