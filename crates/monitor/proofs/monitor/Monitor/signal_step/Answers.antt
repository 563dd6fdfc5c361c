use Rattle.std.proofs.Common.{subst}
use Rattle.word_lock.specs.Held.{held_ticket}
use Rattle.monitor.specs.Prelude.{CalledQuietly, IsStep, Shown, shown}
use Rattle.monitor.specs.inner.Sections.{Taking}
use Rattle.monitor.proofs.Sections.{call_woken}
use Rattle.monitor.proofs.monitor.Monitor.signal_step.Goals.{After-lock-held}
use Rattle.monitor.proofs.monitor.Monitor.signal_step.Goals as goal

took : (g : _) (c : After-lock-held g) → Taking c.pass.inside.token (held_ticket c.lock-held.result)
    c.lock-held.result.value.laden.value.core c.pass.inside.seat c.pass.inside.share
took g c =
    let e = c.lock-held.ensures in
    record { taken = e.taken.1; was = c.pass.invariant; begins = e.begins; entries = e.entries; kept = e.fact.0 }

pub signal_taken-answer-requires-clause-taken : goal.signal_taken-answer-requires-clause-taken
signal_taken-answer-requires-clause-taken g c =
    (c.pass.inside.token, took g (goal.at.signal_taken-answer-requires-clause-taken g c).After-lock-held)

pub invariant_of-pass : goal.invariant_of-pass
invariant_of-pass g c =
    (c.signal_taken-answer.ensures.went c.pass.inside.token
    (took g (goal.at.invariant_of-pass g c).After-lock-held)).pass

pub returns-clause-called : goal.returns-clause-called
returns-clause-called g c =
    let new = shown c.signal_taken-answer.new.token c.pass.inside.seat c.signal_taken-answer.new.share in
    call_woken _ new (subst (λ (s : Shown). CalledQuietly s new) c.pass.view_is (c.signal_taken-answer.ensures.went
    c.pass.inside.token (took g (goal.at.returns-clause-called g c).After-lock-held)).called) c.wake.ensures

pub returns-clause-stepped : goal.returns-clause-stepped
returns-clause-stepped g c =
    subst (λ (s : Shown). IsStep s c.args.step c.signal_taken-answer.result
    (shown c.signal_taken-answer.new.token c.pass.inside.seat c.signal_taken-answer.new.share))
    c.pass.view_is (c.signal_taken-answer.ensures.went c.pass.inside.token
    (took g (goal.at.returns-clause-stepped g c).After-lock-held)).stepped
