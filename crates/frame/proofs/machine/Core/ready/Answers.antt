use Rattle.std.proofs.Common.{◌≡◌, ◌∙◌, ap, subst}
use Rattle.frame.specs.Below.{counts, start_on, first_of, ready_by}
use Rattle.frame.specs.Core.{CoreView}
use Rattle.frame.specs.inner.Core.{ready_of}
use Rattle.frame.proofs.machine.Core.ready.Goals as goal

pub returns : goal.returns
returns g c =
    let a = c.self.inside in
    let s = c.self.invariant in
    let P : CoreView → Type 0 = λ v. c.first_ready.result ≡ ready_of v in
    subst P c.self.view_is (c.first_ready.ensures _ s.hooks
    ∙ ap (λ q. ready_by (counts (start_on a.header a.history) a.history.entries) (first_of q)) s.waiting.line)
