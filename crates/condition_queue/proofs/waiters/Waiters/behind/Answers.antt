use Rattle.std.proofs.Common.{◌+◌, refl, sym, ◌∙◌, subst, arith, IsSome}
use Rattle.condition_queue.proofs.Behind.{awake_nowhere, has_place, waiter_below}
use Rattle.condition_queue.proofs.Kept.{known_asleep, listed_on}
use Rattle.condition_queue.proofs.waiters.Waiters.behind.Goals as goal

pub behind-requires : goal.behind-requires
behind-requires c =
    subst IsSome (sym (listed_on _ _ _ _ c.self.invariant c.args.seat c.in_ok-_sleeper._sleeper
    (rw (← c.self.view_is) at (sym c.in_ok-_sleeper.ensures.sleeper)))) refl

pub overflow_cast-result : goal.overflow_cast-result
overflow_cast-result c =
    let kept = c.self.invariant in
    let sleeper = c.in_ok-_sleeper._sleeper in
    let asleep = known_asleep _ sleeper (rw (← c.self.view_is) at (sym c.in_ok-_sleeper.ensures.sleeper)) in
    let there = has_place c.args.seat _ (kept.listed sleeper.condition c.args.seat ∙ asleep) in
    let low =
    waiter_below _ _ _ _ kept sleeper.condition (there.0 + 1) c.in_ok-next.next
    (sym (c.in_ok-next.ensures sleeper.condition there.0 there.1)) in
    omega (arith, low)

pub returns-in_err-_sleeper-clause-next : goal.returns-in_err-_sleeper-clause-next
returns-in_err-_sleeper-clause-next c =
    λ d k at. absurd (awake_nowhere d k c.args.seat _ (c.in_err-_sleeper.ensures.listed d) at)
