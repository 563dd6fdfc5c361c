use Rattle.std.proofs.Common.{Bool, Result, refl, sym, subst}
use Rattle.monitor_fronts.specs.Below.{X, Fault}
use Rattle.monitor_fronts.specs.Holding.{AddsIn}
use Rattle.monitor_fronts.proofs.read_write_lock.ReadWriteLock.write_try_lock.Goals as goal

pub returns-clause-gains : goal.returns-clause-gains
returns-clause-gains g c =
    subst (λ (told : Result Bool Fault). AddsIn X c.args.pass.now told c.enter.new.pass) (sym c.whether.ensures)
    (c.enter.ensures.gains X refl)
