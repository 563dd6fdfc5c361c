use Rattle.std.proofs.Common.{◌≡◌, ◌≢◌, ℕ, get_or, Some, None, ◌∙◌, sym, arith}
use Rattle.std.proofs.lemmas.List.{get_or_read}
use Rattle.std.proofs.lemmas.Option.{same_Some}
use Rattle.node_arena.specs.LinkedLists.{items}
use Rattle.condition_queue.specs.Sleepers.{asleep_on}
use Rattle.condition_queue.proofs.Kept.{kept_left, left_all, known_asleep, list_below, listed_on}
use Rattle.condition_queue.proofs.Lists.{without_absent}
use Rattle.condition_queue.proofs.waiters.Waiters.leave.Goals as goal
use Rattle.condition_queue.proofs.waiters.Waiters.leave.Goals.{In-Some, After-unlink}

told : (c : In-Some) → get_or c.self.inside.table.items c.args.seat None ≡ Some c.in-Some.sleeper
told c = rw (← c.self.view_is) at (sym c.in-Some.ensures.sleeper)

unlinked : (c : After-unlink) → c.unlink.result ≡ Some c.in-Some.sleeper.condition
unlinked c =
    c.unlink.ensures.value
    ∙ listed_on _ _ _ _ c.self.invariant c.args.seat c.in-Some.sleeper
    (rw (← c.self.view_is) at (sym c.in-Some.ensures.sleeper))

others : (c : After-unlink) (d : ℕ) → d ≢ c.in-Some.sleeper.condition →
    items c.unlink.new.self d ≡ items c.self.inside.lists d
others c d n = c.unlink.ensures.others d (λ e. n (sym (same_Some _ _ (sym (unlinked c) ∙ e))))

pub invariant_of-self : goal.invariant_of-self
invariant_of-self c =
    let at = (goal.at.invariant_of-self c).After-unlink in
    let is = told (goal.at.invariant_of-self c).In-Some in
    let low = list_below _ _ _ _ c.self.invariant c.in-Some.sleeper.condition c.args.seat
    (known_asleep _ c.in-Some.sleeper is) in
    let count = get_or_read c.self.inside.counts.items c.in-Some.sleeper.condition _
    (omega (arith, low, c.self.invariant.each_counted)) c.index_mut-in-Some.ensures.value 0 in
    let shorter = rw (unlinked at) at c.unlink.ensures.shorter in
    kept_left _ _ _ _ c.self.invariant c.args.seat _ c.in-Some.sleeper c.unlink.new.self is
    (rw (unlinked at) at c.unlink.ensures.left) shorter (others at) c.unlink.ensures.moves
    (omega (arith, count, c.self.invariant.counted c.in-Some.sleeper.condition, shorter))

pub returns-in-None-clause-left : goal.returns-in-None-clause-left
returns-in-None-clause-left c =
    λ d. sym (without_absent c.args.seat (asleep_on c.args.self.now d) (c.in-None.ensures.listed d))

pub returns-in-Some-clause-left : goal.returns-in-Some-clause-left
returns-in-Some-clause-left c d =
    let at = (goal.at.returns-in-Some-clause-left c).After-unlink in
    rw (← c.self.view_is)
    (left_all _ _ _ _ c.self.invariant c.args.seat c.in-Some.sleeper c.unlink.new.self
    (told (goal.at.returns-in-Some-clause-left c).In-Some) (rw (unlinked at) at c.unlink.ensures.left)
    (others at) d)
