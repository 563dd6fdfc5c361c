use Rattle.std.proofs.Common.{◌≡◌, ◌∙◌, refl, sym, subst}
use Rattle.frame.specs.Core.{CoreView, start_of}
use Rattle.frame.proofs.AtOnce.{gives_permits}
use Rattle.frame.proofs.machine.Core.may_give.Goals as goal

pub returns-in-Semaphore : goal.returns-in-Semaphore
returns-in-Semaphore g c = λ t.
    let v = c.args.self.now in
    let header = subst (λ (w : CoreView). (start_of w).header ≡ w.header) c.self.view_is c.self.invariant.based in
    gives_permits v c.args.seat c.args.mode c.args.n c.in-Semaphore.field-0 c.in-Semaphore.field-1
    _ c.may_free.result (sym c.object.ensures ∙ c.in-Semaphore.is) header refl c.may_free.ensures t
