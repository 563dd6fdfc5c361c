use Rattle.std.proofs.Common.{◌∙◌, ap, not, sym, subst}
use Rattle.history.specs.Entries.{start_on}
use Rattle.deciding.proofs.Bounds.{waits_by}
use Rattle.condition_queue.proofs.Movable.{sleeps_is}
use Rattle.frame.specs.inner.AtOnce.{IsAlone}
use Rattle.frame.specs.Prelude.{CoreView, with_history, told_in}
use Rattle.frame.proofs.AtOnce.{alone}
use Rattle.frame.proofs.Stepping.{history_of}
use Rattle.frame.proofs.machine.Core.is_alone.Goals as goal

pub returns-then-is_empty : goal.returns-then-is_empty
returns-then-is_empty g c = λ t.
    let a = c.self.inside in
    let i = c.self.invariant in
    let seat = c.args.seat in
    subst (λ (v : CoreView). IsAlone v seat) c.self.view_is
    (alone (with_history a.header a.history (told_in a.seats.items)) seat a.queue.arrivals c.sleeper_of.result
    i.based i.waiting.line (sym c.is_empty.ensures ∙ c.if-is_empty.true)
    (sleeps_is (start_on a.header a.history) a.history.entries seat a.waiters c.sleeper_of.result
    (waits_by (start_on a.header a.history) a.history.entries (history_of i)) i.waiting.sleepers
    c.sleeper_of.ensures.listed) (c.is_none.ensures ∙ ap not t))
