use Rattle.std.proofs.Common.{Ok, subst}
use Rattle.monitor.specs.Below.{CoreView, Recorded, entry_at_once}
use Rattle.frame.specs.Core.{IsStepped}
use Rattle.monitor.proofs.under_lock.UnderLock+H+Empty.step_at_once.Goals as goal

pub returns-clause-done : goal.returns-clause-done
returns-clause-done g c =
    subst (λ (v : CoreView). IsStepped v c.args.seat c.args.step
    (Ok (Recorded (entry_at_once c.args.seat c.args.step) c.in-Some.named)) c.step_at_once.new.self)
    (λ d. (c.deref_mut-laden.ensures.value d).core) c.in-Some.ensures.done
