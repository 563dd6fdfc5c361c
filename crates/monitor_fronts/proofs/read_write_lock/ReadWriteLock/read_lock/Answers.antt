use Rattle.std.proofs.Common.{refl}
use Rattle.monitor_fronts.specs.Below.{S, Plain}
use Rattle.monitor_fronts.proofs.MakingRoom.{untimed_adds}
use Rattle.monitor_fronts.proofs.read_write_lock.ReadWriteLock.read_lock.Goals as goal

pub returns-clause-gains : goal.returns-clause-gains
returns-clause-gains g c =
    untimed_adds c.args.self.now.when_full (g.P.Parking.did c.args.parking.now) S Plain
    c.args.pass.now c.acquire_as.new.pass c.acquire_as.result _ (λ t. t)
    c.acquire_as.ensures.called.same c.acquire_as.ensures.acquired c.done.ensures (c.acquire_as.ensures.gains refl)
