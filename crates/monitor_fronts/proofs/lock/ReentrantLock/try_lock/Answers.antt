use Rattle.std.proofs.Common.{Bool, Result, refl, sym, subst}
use Rattle.monitor_fronts.specs.Below.{X, Fault}
use Rattle.monitor_fronts.specs.Holding.{Gains}
use Rattle.monitor_fronts.proofs.lock.ReentrantLock.try_lock.Goals as goal

pub returns-clause-gains : goal.returns-clause-gains
returns-clause-gains g c =
    subst (λ (told : Result Bool Fault). Gains c.args.pass.now told c.enter.new.pass) (sym c.whether.ensures)
    (λ lock. (c.enter.ensures.gains X refl lock).own)
