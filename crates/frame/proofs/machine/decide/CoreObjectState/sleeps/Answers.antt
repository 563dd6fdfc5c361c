use Rattle.std.proofs.Common.{◌≡◌, ◌∙◌, List, ap, subst, sym}
use Rattle.frame.specs.Below.{Entry, sleeps_below, start_on, Start}
use Rattle.deciding.proofs.Bounds.{waits_by}
use Rattle.frame.specs.Core.{CoreView, start_of}
use Rattle.condition_queue.proofs.Movable.{sleeps_is}
use Rattle.frame.proofs.Stepping.{history_of}
use Rattle.frame.proofs.machine.decide.CoreObjectState.sleeps.Goals as goal

pub returns : goal.returns
returns g c s h st =
    let a = c.self.inside in
    let i = c.self.invariant in
    let seat = c.args.seat in
    let P : CoreView → Type 0 =
    λ v. c.is_some.result ≡ sleeps_below (start_of v).header.conditions (start_of v) v.entries seat in
    let v = c.args.self.now in
    subst P c.self.view_is
    (c.is_some.ensures
    ∙ sleeps_is (start_on a.header a.history) a.history.entries seat a.waiters c.sleeper_of.result
    (waits_by (start_on a.header a.history) a.history.entries (history_of i)) i.waiting.sleepers
    c.sleeper_of.ensures.listed)
    ∙ ap (λ (x : List Entry). sleeps_below (start_of v).header.conditions (start_of v) x seat) (sym
    st.entries)
    ∙ ap (λ (x : Start). sleeps_below x.header.conditions x h seat) (sym st.start)
