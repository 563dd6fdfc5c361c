use Rattle.std.proofs.Common.{◌≡◌, ◌<◌, ◌∙◌, Some, ap, sym, subst}
use Rattle.frame.specs.Prelude.{CoreView, unmarked_at, with_history, told_in}
use Rattle.frame.specs.inner.Core.{ready_of}
use Rattle.frame.proofs.Stepping.{stands_untold}
use Rattle.frame.proofs.Telling.{view_untold}
use Rattle.frame.proofs.machine.Core.untell.Goals as goal

pub invariant_of-self : goal.invariant_of-self
invariant_of-self g c =
    let a = c.self.inside in
    let below : c.args.seat < a.header.seats =
    subst (λ (v : CoreView). c.args.seat < v.header.seats) (sym c.self.view_is) c.requires.seat in
    let waits = subst (λ v. ready_of v ≡ Some c.args.seat → ⊥) (sym c.self.view_is) c.requires.waits in
    stands_untold (g.H.Hooks.agrees a.hooks) a.header a.history a.queue a.waiters a.seats.items
    c.untell.new.seats.items c.args.seat c.self.invariant below waits c.untell.ensures

pub returns : goal.returns
returns g c =
    let a = c.self.inside in
    ap (λ t. with_history a.header a.history (told_in t)) c.untell.ensures
    ∙ view_untold a.header a.history a.seats.items c.args.seat
    ∙ ap (unmarked_at c.args.seat) c.self.view_is
