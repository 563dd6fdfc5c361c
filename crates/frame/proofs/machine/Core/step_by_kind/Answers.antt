use Rattle.std.proofs.Common.{subst}
use Rattle.frame.specs.Core.{CoreView, IsStepped}
use Rattle.frame.proofs.machine.Core.step_by_kind.Goals as goal

pub returns-in-None : goal.returns-in-None
returns-in-None g c =
    subst (λ (v : CoreView). IsStepped v c.args.seat c.args.step c.step_in_full.result c.step_in_full.new.self)
    c.in-None.ensures.none c.step_in_full.ensures
