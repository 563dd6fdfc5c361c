use Rattle.std.proofs.Common.{◌≡◌, Option, Some, None, Result, Ok, sym, subst}
use Rattle.frame.specs.Below.{Entry, Fault, entry_for}
use Rattle.history.proofs.Marking.{sleeper_not_ready}
use Rattle.frame.specs.Core.{start_of}
use Rattle.frame.proofs.Recording.{failed, stepped, waited}
use Rattle.frame.proofs.machine.Core.step_in_full.Goals as goal

pub sleep-requires-clause-waits : goal.sleep-requires-clause-waits
sleep-requires-clause-waits g c = λ r.
    let v = c.args.self.now in
    let made : ◌≡◌ {A = Result (Option Entry) Fault} (Ok None)
    (entry_for (start_of v) v.entries c.args.seat c.args.step) =
    subst (λ x. ◌≡◌ {A = Result (Option Entry) Fault} (Ok x)
    (entry_for (start_of v) v.entries c.args.seat c.args.step)) c.in-Ok-None.field-0-is
    c.in-Ok-None.ensures.made in
    sleeper_not_ready (start_of v) v.entries c.args.seat c.args.step (sym made) r

pub returns-in-Err : goal.returns-in-Err
returns-in-Err g c =
    failed c.args.self.now c.args.seat c.args.step c.in-Err.fault (sym c.in-Err.ensures.made)

pub returns-in-Ok-None : goal.returns-in-Ok-None
returns-in-Ok-None g c =
    let v = c.args.self.now in
    let made : ◌≡◌ {A = Result (Option Entry) Fault} (Ok None)
    (entry_for (start_of v) v.entries c.args.seat c.args.step) =
    subst (λ x. ◌≡◌ {A = Result (Option Entry) Fault} (Ok x)
    (entry_for (start_of v) v.entries c.args.seat c.args.step)) c.in-Ok-None.field-0-is
    c.in-Ok-None.ensures.made in
    waited v c.sleep.new.self c.args.seat c.args.step (sym made) c.sleep.ensures.unmarked c.sleep.ensures.tidied

pub returns-in-Ok-Some : goal.returns-in-Ok-Some
returns-in-Ok-Some g c =
    let v = c.args.self.now in
    let made : ◌≡◌ {A = Result (Option Entry) Fault} (Ok (Some c.in-Ok-Some.entry))
    (entry_for (start_of v) v.entries c.args.seat c.args.step) =
    subst (λ x. ◌≡◌ {A = Result (Option Entry) Fault} (Ok x)
    (entry_for (start_of v) v.entries c.args.seat c.args.step)) c.in-Ok-Some.field-0-is
    c.in-Ok-Some.ensures.made in
    stepped v c.record.new.self c.args.seat c.args.step c.in-Ok-Some.entry c.record.result (sym made) c.record.ensures
