use Rattle.std.proofs.Common.{◌≡◌, true, ◌∙◌, subst, sym}
use Rattle.history.specs.Could.{could}
use Rattle.frame.specs.Core.{CoreView, counts_of}
use Rattle.frame.proofs.machine.Core.may_take.Goals as goal

pub returns-then-not-at_limit-clause-could : goal.returns-then-not-at_limit-clause-could
returns-then-not-at_limit-clause-could g c = λ t.
    subst (λ (v : CoreView). could (counts_of v) c.args.seat c.args.mode c.args.n ≡ true) c.self.view_is
    (sym (c.could.ensures _ c.self.invariant.hooks) ∙ t)
