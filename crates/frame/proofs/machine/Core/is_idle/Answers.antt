use Rattle.std.proofs.Common.{◌∙◌, ap, not, subst}
use Rattle.frame.specs.Below.{start_on, place_of}
use Rattle.deciding.proofs.Bounds.{waits_by}
use Rattle.condition_queue.proofs.Movable.{sleeps_is}
use Rattle.frame.specs.inner.AtOnce.{IsIdle}
use Rattle.frame.specs.Prelude.{CoreView, with_history, told_in}
use Rattle.frame.proofs.ByKind.{idle}
use Rattle.frame.proofs.Stepping.{history_of}
use Rattle.frame.proofs.machine.Core.is_idle.Goals as goal

pub returns-then-is_none : goal.returns-then-is_none
returns-then-is_none g c = λ t.
    let a = c.self.inside in
    let i = c.self.invariant in
    let seat = c.args.seat in
    subst (λ (v : CoreView). IsIdle v seat) c.self.view_is
    (idle (with_history a.header a.history (told_in a.seats.items)) seat c.place_of.result
    c.sleeper_of.result i.based (c.place_of.ensures ∙ ap (place_of seat) i.waiting.line)
    (c.is_none.ensures ∙ ap not c.if-is_none.true)
    (sleeps_is (start_on a.header a.history) a.history.entries seat a.waiters c.sleeper_of.result
    (waits_by (start_on a.header a.history) a.history.entries (history_of i)) i.waiting.sleepers
    c.sleeper_of.ensures.listed) (c.is_none-then-is_none.ensures ∙ ap not t))
