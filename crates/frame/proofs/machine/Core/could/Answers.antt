use Rattle.std.proofs.Common.{◌≡◌, subst}
use Rattle.history.specs.Could.{could}
use Rattle.frame.specs.Core.{CoreView, counts_of}
use Rattle.frame.proofs.machine.Core.could.Goals as goal

pub returns : goal.returns
returns g c =
    subst (λ (v : CoreView). c.could.result ≡ could (counts_of v) c.args.seat c.args.mode c.args.n)
    c.self.view_is (c.could.ensures _ c.self.invariant.hooks)
