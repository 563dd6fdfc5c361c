use Rattle.std.proofs.Common.{rules, ◌≡◌, ◌∙◌, ap, subst, sym}
use Rattle.monitor.specs.Below.{held_ticket, Ticket}
use Rattle.monitor.specs.Prelude.{CalledQuietly, LetsGo, Trades, holds_of, Shown, shown, IsStep}
use Rattle.monitor.specs.inner.AtOnce.{reply_of}
use Rattle.monitor.specs.inner.Sections.{Taking}
use Rattle.monitor.proofs.Sections.{call_woken}
use Rattle.monitor.proofs.Taking.{fit_taken}
use Rattle.monitor.proofs.monitor.Monitor.step_into.Goals.{In-Some}
use Rattle.monitor.proofs.monitor.Monitor.step_into.Goals as goal

took : (g : _) (c : In-Some g) → Taking c.pass.inside.token (held_ticket c.in-Some.held)
    c.in-Some.held.value.laden.value.core c.pass.inside.seat c.pass.inside.share
took g c =
    let e = c.in-Some.ensures in
    record { taken = e.taken.1; was = c.pass.invariant; begins = e.begins; entries = e.entries; kept = e.fact.0 }

pub step_taken-named-requires-clause-taken : goal.step_taken-named-requires-clause-taken
step_taken-named-requires-clause-taken g c = (
  c.pass.inside.token,
  took g (goal.at.step_taken-named-requires-clause-taken g c).In-Some,
  subst (λ (s : Shown). g.L.Load.carries c.args.load.now (holds_of s)) (sym c.pass.view_is) c.requires.carries,
)

pub step_taken-named-requires-clause-fit : goal.step_taken-named-requires-clause-fit
step_taken-named-requires-clause-fit g c =
    fit_taken _ _ _ _ _ (took g (goal.at.step_taken-named-requires-clause-fit g c).In-Some) g.L.Load.fit
    c.args.load.now c.args.step
    (subst (λ (s : Shown). LetsGo c.args.step (holds_of s) → g.L.Load.fit c.args.load.now) (sym c.pass.view_is)
    c.requires.fit)

pub invariant_of-pass-2 : goal.invariant_of-pass-2
invariant_of-pass-2 g c =
    (c.step_taken-named.ensures.went c.pass.inside.token
    (took g (goal.at.invariant_of-pass-2 g c).In-Some)).pass

pub returns-clause-called : goal.returns-clause-called
returns-clause-called g c =
    let new = shown c.step_taken-named.new.token c.pass.inside.seat c.step_taken-named.new.share in
    call_woken _ new (subst (λ (s : Shown). CalledQuietly s new) c.pass.view_is (c.step_taken-named.ensures.went
    c.pass.inside.token (took g (goal.at.returns-clause-called g c).In-Some)).called) c.wake.ensures

pub returns-clause-stepped : goal.returns-clause-stepped
returns-clause-stepped g c =
    subst (λ (s : Shown). IsStep s c.args.step (reply_of s.seat c.args.step c.step_taken-named.result
    c.step_taken-named.new.answer)
    (shown c.step_taken-named.new.token c.pass.inside.seat c.step_taken-named.new.share))
    c.pass.view_is (c.step_taken-named.ensures.went c.pass.inside.token
    (took g (goal.at.returns-clause-stepped g c).In-Some)).stepped

pub returns-clause-trades : goal.returns-clause-trades
returns-clause-trades g c =
    subst (λ (s : Shown). Trades g.L.Load.fit g.L.Load.is_counted g.L.Load.amount c.args.load.now s
    c.step_taken-named.new.load
    (shown c.step_taken-named.new.token c.pass.inside.seat c.step_taken-named.new.share))
    c.pass.view_is (c.step_taken-named.ensures.trades c.pass.inside.token
    (took g (goal.at.returns-clause-trades g c).In-Some))

pub returns-in_default-clause-trades : goal.returns-in_default-clause-trades
returns-in_default-clause-trades g c =
    let same : c.lock_now.new.token ≡ c.pass.inside.token = search rules in
    subst (λ (s : Shown). Trades g.L.Load.fit g.L.Load.is_counted g.L.Load.amount c.args.load.now s c.step_with.new.load
    c.step_with.new.pass)
    (ap (λ (t : Ticket). shown t c.pass.inside.seat c.pass.inside.share) same ∙ c.pass.view_is) c.step_with.ensures.trades
