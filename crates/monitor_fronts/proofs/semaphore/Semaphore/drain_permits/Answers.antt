use Rattle.std.proofs.Common.{ℕ, Result, sym, subst}
use Rattle.history.specs.declared.fault.Fault.{Fault}
use Rattle.monitor_fronts.specs.Permits.{DrainsFree, DrainsPermits}
use Rattle.monitor_fronts.proofs.Permits.{drains_take, drains_take_free}
use Rattle.monitor_fronts.proofs.semaphore.Semaphore.drain_permits.Goals as goal

pub returns-clause-takes : goal.returns-clause-takes
returns-clause-takes g c =
    subst (λ (drained : Result ℕ Fault). DrainsPermits c.args.pass.now drained c.enter.new.pass)
    (sym c.number.ensures)
    (drains_take c.args.self.now.when_full (g.P.Parking.did c.args.parking.now) c.args.pass.now c.enter.new.pass
    c.enter.result c.enter.ensures.called.same c.enter.ensures.entered)

pub returns-clause-free : goal.returns-clause-free
returns-clause-free g c =
    subst (λ (drained : Result ℕ Fault). DrainsFree c.args.pass.now drained c.enter.new.pass) (sym c.number.ensures)
    (drains_take_free c.args.self.now.when_full (g.P.Parking.did c.args.parking.now) c.args.pass.now
    c.enter.new.pass c.enter.result c.enter.ensures.called.same c.enter.ensures.entered)
