use Rattle.std.proofs.Common.{Result, subst, sym}
use Rattle.monitor.specs.Below.{Answer, Fault}
use Rattle.word_lock.specs.Held.{held_ticket}
use Rattle.monitor.specs.Prelude.{CalledQuietly, LetsGo, Trades, holds_of, IsStep, Shown, shown}
use Rattle.monitor.specs.inner.Sections.{Taking}
use Rattle.monitor.proofs.Sections.{call_woken}
use Rattle.monitor.proofs.Taking.{fit_taken}
use Rattle.monitor.proofs.monitor.Monitor.step_with.Goals.{After-lock-held}
use Rattle.monitor.proofs.monitor.Monitor.step_with.Goals as goal

took : (g : _) (c : After-lock-held g) → Taking c.pass.inside.token (held_ticket c.lock-held.result)
    c.lock-held.result.value.laden.value.core c.pass.inside.seat c.pass.inside.share
took g c =
    let e = c.lock-held.ensures in
    record { taken = e.taken.1; was = c.pass.invariant; begins = e.begins; entries = e.entries; kept = e.fact.0 }

pub step_taken-named-requires-clause-taken : goal.step_taken-named-requires-clause-taken
step_taken-named-requires-clause-taken g c = (
  c.pass.inside.token,
  took g (goal.at.step_taken-named-requires-clause-taken g c).After-lock-held,
  subst (λ (s : Shown). g.L.Load.carries c.args.load.now (holds_of s)) (sym c.pass.view_is) c.requires.carries,
)

pub step_taken-named-requires-clause-fit : goal.step_taken-named-requires-clause-fit
step_taken-named-requires-clause-fit g c =
    fit_taken _ _ _ _ _ (took g (goal.at.step_taken-named-requires-clause-fit g c).After-lock-held) g.L.Load.fit
    c.args.load.now c.args.step
    (subst (λ (s : Shown). LetsGo c.args.step (holds_of s) → g.L.Load.fit c.args.load.now) (sym c.pass.view_is)
    c.requires.fit)

pub invariant_of-pass : goal.invariant_of-pass
invariant_of-pass g c =
    (c.step_taken-named.ensures.went c.pass.inside.token
    (took g (goal.at.invariant_of-pass g c).After-lock-held)).pass

pub returns-clause-called : goal.returns-clause-called
returns-clause-called g c =
    let new = shown c.step_taken-named.new.token c.pass.inside.seat c.step_taken-named.new.share in
    call_woken _ new (subst (λ (s : Shown). CalledQuietly s new) c.pass.view_is (c.step_taken-named.ensures.went
    c.pass.inside.token (took g (goal.at.returns-clause-called g c).After-lock-held)).called) c.wake.ensures

pub returns-clause-stepped : goal.returns-clause-stepped
returns-clause-stepped g c =
    let new = shown c.step_taken-named.new.token c.pass.inside.seat c.step_taken-named.new.share in
    subst (λ (s : Shown). IsStep s c.args.step c.reply_of.result new) c.pass.view_is
    (subst (λ (r : Result Answer Fault).
    IsStep (shown c.pass.inside.token c.pass.inside.seat c.pass.inside.share) c.args.step r new)
    (sym c.reply_of.ensures) (c.step_taken-named.ensures.went c.pass.inside.token
    (took g (goal.at.returns-clause-stepped g c).After-lock-held)).stepped)

pub returns-clause-trades : goal.returns-clause-trades
returns-clause-trades g c =
    subst (λ (s : Shown). Trades g.L.Load.fit g.L.Load.is_counted g.L.Load.amount c.args.load.now s
    c.step_taken-named.new.load
    (shown c.step_taken-named.new.token c.pass.inside.seat c.step_taken-named.new.share))
    c.pass.view_is (c.step_taken-named.ensures.trades c.pass.inside.token
    (took g (goal.at.returns-clause-trades g c).After-lock-held))
