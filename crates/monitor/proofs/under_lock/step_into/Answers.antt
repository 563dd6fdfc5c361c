use Rattle.std.proofs.Common.{subst}
use Rattle.frame.specs.Core.{CoreView, IsStepped}
use Rattle.monitor.proofs.under_lock.step_into.Goals as goal

pub returns-in-None : goal.returns-in-None
returns-in-None g c =
    subst (λ (v : CoreView). IsStepped v c.args.seat c.args.step c.step_by_kind.result c.step_by_kind.new.self)
    c.in-None.ensures.none c.step_by_kind.ensures
