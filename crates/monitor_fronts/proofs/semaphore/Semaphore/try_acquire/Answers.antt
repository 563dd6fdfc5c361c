use Rattle.std.proofs.Common.{Bool, Result, sym, subst}
use Rattle.history.specs.declared.fault.Fault.{Fault}
use Rattle.monitor_fronts.specs.Permits.{TakesFree, TakesPermits}
use Rattle.monitor_fronts.proofs.Permits.{tries_take, tries_take_free}
use Rattle.monitor_fronts.proofs.semaphore.Semaphore.try_acquire.Goals as goal

pub returns-clause-takes : goal.returns-clause-takes
returns-clause-takes g c =
    subst (λ (told : Result Bool Fault). TakesPermits c.args.n c.args.pass.now told c.enter.new.pass)
    (sym c.whether.ensures)
    (tries_take c.args.self.now.when_full (g.P.Parking.did c.args.parking.now) c.args.n c.args.pass.now
    c.enter.new.pass c.enter.result c.enter.ensures.called.same c.enter.ensures.entered)

pub returns-clause-free : goal.returns-clause-free
returns-clause-free g c =
    subst (λ (told : Result Bool Fault). TakesFree c.args.n c.args.pass.now told c.enter.new.pass)
    (sym c.whether.ensures)
    (tries_take_free c.args.self.now.when_full (g.P.Parking.did c.args.parking.now) c.args.n c.args.pass.now
    c.enter.new.pass c.enter.result c.enter.ensures.called.same c.enter.ensures.called.shows c.enter.ensures.entered)
