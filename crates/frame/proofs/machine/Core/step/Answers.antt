use Rattle.std.proofs.Common.{subst}
use Rattle.frame.specs.Core.{CoreView, IsStepped}
use Rattle.frame.proofs.AtOnce.{stepped_alone}
use Rattle.frame.proofs.machine.Core.step.Goals as goal

pub returns-in-Some : goal.returns-in-Some
returns-in-Some g c =
    stepped_alone c.args.self.now c.step_alone.new.self c.args.seat c.args.step c.in-Some.entry
    c.in-Some.ensures.done

pub returns-in-None : goal.returns-in-None
returns-in-None g c =
    subst (λ (v : CoreView). IsStepped v c.args.seat c.args.step c.step_by_kind.result c.step_by_kind.new.self)
    c.in-None.ensures.none c.step_by_kind.ensures
