use Rattle.std.proofs.Common.{◌≡◌, ◌∙◌, ◌&&◌, not, ap, subst, sym}
use Rattle.history.specs.Could.{limit}
use Rattle.frame.specs.Core.{CoreView, counts_of}
use Rattle.frame.proofs.machine.Core.may_acquire.Goals as goal

pub returns-then-admits : goal.returns-then-admits
returns-then-admits g c =
    let below = subst (λ (v : CoreView). c.at_limit.result ≡ limit (counts_of v) c.args.seat c.args.mode)
    c.self.view_is (c.at_limit.ensures _ c.self.invariant.hooks) in
    ap not below
    ∙ ap (λ b. b && not (limit (counts_of c.args.self.now) c.args.seat c.args.mode))
    (sym (sym c.admits.ensures ∙ c.if-admits.true))
