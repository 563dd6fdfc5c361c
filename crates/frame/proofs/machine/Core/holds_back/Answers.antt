use Rattle.std.proofs.Common.{◌≡◌, ◌∙◌, ap, subst}
use Rattle.history.specs.Could.{held_back}
use Rattle.frame.specs.Prelude.{CoreView, counts_of, line_mode}
use Rattle.frame.proofs.machine.Core.holds_back.Goals as goal

pub returns : goal.returns
returns g c =
    subst (λ (v : CoreView). c.holds_back.result
    ≡ held_back (counts_of v) (line_mode c.line.result) c.args.seat c.args.mode)
    c.self.view_is (c.holds_back.ensures _ c.self.invariant.hooks)
    ∙ ap (λ first. held_back (counts_of c.args.self.now) first c.args.seat c.args.mode) c.line.ensures
