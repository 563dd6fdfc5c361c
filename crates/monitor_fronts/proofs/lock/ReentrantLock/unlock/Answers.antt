use Rattle.monitor_fronts.proofs.Counting.{of_lock}
use Rattle.monitor_fronts.proofs.Owning.{give_is_ok, give_loses}
use Rattle.monitor_fronts.proofs.lock.ReentrantLock.unlock.Goals as goal

pub returns-clause-owner : goal.returns-clause-owner
returns-clause-owner g c = λ lock some.
    give_is_ok (g.P.Parking.did c.args.parking.now) c.args.pass.now c.release.new.pass c.release.result _
    (of_lock c.requires.can.is_of lock) c.release.ensures.called.same c.is_true.ensures c.release.ensures.called.shows
    c.release.ensures.given some c.done.ensures

pub returns-clause-loses : goal.returns-clause-loses
returns-clause-loses g c = λ lock some.
    give_loses (g.P.Parking.did c.args.parking.now) c.args.pass.now c.release.new.pass c.release.result
    (of_lock c.requires.can.is_of lock) c.release.ensures.called.same c.is_true.ensures c.release.ensures.called.shows
    c.release.ensures.given some
