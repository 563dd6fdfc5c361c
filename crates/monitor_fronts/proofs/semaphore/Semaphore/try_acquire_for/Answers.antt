use Rattle.std.proofs.Common.{Bool, Result, sym, subst}
use Rattle.monitor_fronts.specs.Below.{Fault, Timed}
use Rattle.monitor_fronts.specs.Permits.{TakesFree, TakesPermits}
use Rattle.monitor_fronts.proofs.Permits.{acquires_take, acquires_take_free}
use Rattle.monitor_fronts.proofs.semaphore.Semaphore.try_acquire_for.Goals as goal

pub returns-clause-takes : goal.returns-clause-takes
returns-clause-takes g c =
    subst (λ (told : Result Bool Fault). TakesPermits c.args.n c.args.pass.now told c.acquire_as.new.pass)
    (sym c.whether.ensures)
    (acquires_take c.args.self.now.when_full (g.P.Parking.did c.args.parking.now) c.args.n (Timed c.args.ms)
    c.args.pass.now c.acquire_as.new.pass c.acquire_as.result c.acquire_as.ensures.called.same
    c.acquire_as.ensures.acquired)

pub returns-clause-free : goal.returns-clause-free
returns-clause-free g c =
    subst (λ (told : Result Bool Fault). TakesFree c.args.n c.args.pass.now told c.acquire_as.new.pass)
    (sym c.whether.ensures)
    (acquires_take_free c.args.self.now.when_full (g.P.Parking.did c.args.parking.now) c.args.n (Timed c.args.ms)
    c.args.pass.now c.acquire_as.new.pass c.acquire_as.result c.acquire_as.ensures.called.same
    c.acquire_as.ensures.called.shows
    c.acquire_as.ensures.acquired)
