use Rattle.std.proofs.Common.{◌≡◌, ◌∙◌, Some, true, ap, subst, sym, eq-eqb}
use Rattle.frame.specs.Below.{is_seat, counts, start_on, first_of, line, ready_by}
use Rattle.frame.specs.Core.{CoreView, start_of}
use Rattle.frame.specs.inner.Core.{ready_of}
use Rattle.frame.proofs.ByKind.{ready_is}
use Rattle.frame.proofs.machine.Core.is_ready.Goals as goal

pub returns-then-first-seat : goal.returns-then-first-seat
returns-then-first-seat g c =
    let a = c.self.inside in
    let seat = c.args.seat in
    let k = counts (start_on a.header a.history) a.history.entries in
    let first = subst (λ (v : CoreView). first_of (line (start_of v) v.entries) ≡ Some c.args.first)
    (sym c.self.view_is) c.requires in
    subst (λ (v : CoreView). c.could.result ≡ is_seat (ready_of v) seat) c.self.view_is
    (ready_is k c.args.first seat true c.could.result (sym (eq-eqb c.args.first.seat seat c.if-first-seat.true))
    (c.could.ensures k c.self.invariant.hooks)
    ∙ ap (λ o. is_seat (ready_by k o) seat) (sym first))
