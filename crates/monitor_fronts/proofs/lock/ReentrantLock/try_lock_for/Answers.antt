use Rattle.std.proofs.Common.{Bool, Result, refl, sym, subst}
use Rattle.monitor_fronts.specs.Below.{Fault}
use Rattle.monitor_fronts.specs.Holding.{Gains}
use Rattle.monitor_fronts.proofs.lock.ReentrantLock.try_lock_for.Goals as goal

pub returns-clause-gains : goal.returns-clause-gains
returns-clause-gains g c =
    subst (λ (told : Result Bool Fault). Gains c.args.pass.now told c.acquire_as.new.pass) (sym c.whether.ensures)
    (λ lock. (c.acquire_as.ensures.gains refl lock).own)
