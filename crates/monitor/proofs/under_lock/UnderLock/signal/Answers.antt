use Rattle.std.proofs.Common.{subst}
use Rattle.monitor.specs.Below.{CoreView}
use Rattle.frame.specs.Core.{IsStepped}
use Rattle.monitor.proofs.under_lock.UnderLock.signal.Goals as goal

pub returns-clause-stepped : goal.returns-clause-stepped
returns-clause-stepped g c =
    subst (λ (v : CoreView). IsStepped v c.args.seat c.args.step c.signal_laden.result c.signal_laden.new.laden.core)
    (λ d. (c.deref_mut.ensures.value d).core) c.signal_laden.ensures.stepped
