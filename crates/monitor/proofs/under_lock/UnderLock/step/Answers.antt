use Rattle.std.proofs.Common.{◌≡◌, subst}
use Rattle.monitor.specs.Below.{CoreView, counts_of}
use Rattle.monitor.specs.Prelude.{holds_in}
use Rattle.monitor.specs.inner.AtOnce.{reply_of}
use Rattle.frame.specs.Core.{IsStepped}
use Rattle.monitor.proofs.under_lock.UnderLock.step.Goals as goal

pub returns-clause-stepped : goal.returns-clause-stepped
returns-clause-stepped g c =
    subst (λ (v : CoreView). IsStepped v c.args.seat c.args.step (reply_of c.args.seat c.args.step c.step_laden.result
    c.step_laden.new.answer) c.step_laden.new.laden.core)
    (λ d. (c.deref_mut.ensures.value d).core) c.step_laden.ensures.stepped

pub returns-clause-stays : goal.returns-clause-stays
returns-clause-stays g c =
    let new = c.step_laden.new.laden.core in
    subst (λ (v : CoreView). holds_in new c.args.seat ≡ holds_in v c.args.seat → (counts_of new).free ≡ (counts_of v).free
    → c.step_laden.new.there ≡ c.args.there.now)
    (λ d. (c.deref_mut.ensures.value d).core) c.step_laden.ensures.stays
