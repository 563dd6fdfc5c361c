use Rattle.std.proofs.Common.{◌≡◌, Some, None, sym, subst, ◌∙◌}
use Rattle.monitor.specs.Prelude.{Limits, limits_at}
use Rattle.monitor.proofs.TurnByTurn.{WasParked, comes_at}
use Rattle.monitor.proofs.interrupts.Interrupts.next_woke.Goals as goal

some_same : (x y : Limits) → Some x ≡ Some y → x ≡ y
some_same x y q = cc

pub returns-in-Some-clause-comes : goal.returns-in-Some-clause-comes
returns-in-Some-clause-comes g c =
    comes_at (g.P.Parking.did c.args.parking.now) c.args.self.now.seat c.args.waiting.limits
    c.args.waiting.stage c.park.result
    (λ k is.
    let at : limits_at c.args.waiting.stage c.args.waiting.limits ≡ Some c.in-Some.limits =
    sym c.limits.ensures ∙ c.in-Some.is in
    subst (λ (z : Limits). WasParked (g.P.Parking.did c.args.parking.now) c.args.self.now.seat z c.park.result)
    (some_same c.in-Some.limits k (sym at ∙ is))
    (c.park.ensures.done, c.park.ensures.deadline, c.park.ensures.interrupted))

pub returns-in-None-clause-comes : goal.returns-in-None-clause-comes
returns-in-None-clause-comes g c =
    comes_at (g.P.Parking.did c.args.parking.now) c.args.self.now.seat c.args.waiting.limits
    c.args.waiting.stage _
    (λ k is.
    let at : limits_at c.args.waiting.stage c.args.waiting.limits ≡ None =
    sym c.limits.ensures ∙ c.in-None.is in
    let z : None ≡ Some k = sym at ∙ is in cc)
