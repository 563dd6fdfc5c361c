use Rattle.monitor_fronts.proofs.CountingDown.{count_down_falls, count_downs}
use Rattle.monitor_fronts.proofs.latch.Latch.count_down.Goals as goal

pub returns-clause-counts : goal.returns-clause-counts
returns-clause-counts g c =
    count_downs c.args.self.now.when_full (g.P.Parking.did c.args.parking.now) c.args.pass.now c.enter.new.pass
    c.enter.result _ c.enter.ensures.called.same c.enter.ensures.called.shows c.enter.ensures.entered c.done.ensures

pub returns-clause-falls : goal.returns-clause-falls
returns-clause-falls g c =
    count_down_falls c.args.self.now.when_full (g.P.Parking.did c.args.parking.now) c.args.pass.now c.enter.new.pass
    c.enter.result _ c.enter.ensures.called.same c.enter.ensures.entered c.done.ensures
