use Rattle.monitor_fronts.proofs.Owning.{read_takes}
use Rattle.monitor_fronts.proofs.read_write_lock.ReadWriteLock.read_unlock.Goals as goal

pub returns-clause-loses : goal.returns-clause-loses
returns-clause-loses g c = λ lock some.
    read_takes (g.P.Parking.did c.args.parking.now) c.args.pass.now c.release.new.pass c.release.result _
    lock c.release.ensures.called.same c.release.ensures.called.shows c.release.ensures.given some
    c.done.ensures
