use Rattle.std.proofs.Common.{Bool, Result, refl, sym, subst}
use Rattle.monitor_fronts.specs.Below.{S, Fault}
use Rattle.monitor_fronts.specs.Holding.{AddsIn}
use Rattle.monitor_fronts.proofs.read_write_lock.ReadWriteLock.read_try_lock.Goals as goal

pub returns-clause-gains : goal.returns-clause-gains
returns-clause-gains g c =
    subst (λ (told : Result Bool Fault). AddsIn S c.args.pass.now told c.enter.new.pass) (sym c.whether.ensures)
    (c.enter.ensures.gains S refl)
