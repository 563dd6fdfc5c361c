use Rattle.std.proofs.Common.{rules, ◌≡◌, ◌∙◌, true, false, ℕ, refl, sym, subst}
use Rattle.monitor_fronts.specs.Below.{Mode}
use Rattle.monitor.proofs.Sections.{called_since, quiet_since, quietly}
use Rattle.monitor_fronts.specs.inner.Room.{is_to_trim}
use Rattle.monitor_fronts.proofs.Rounds.{again, begin, found_room, gives_up, step_recorded_none, refused_full, trim_holds}
use Rattle.monitor_fronts.proofs.room.enter_in_room.Goals.{After-trim_from}
use Rattle.monitor_fronts.proofs.room.enter_in_room.Goals as goal

pub loop-init : goal.loop-init
loop-init g c =
    (tt, tt, begin c.args.when_full _ c.args.pass.now c.is_true.ensures, refl, tt)

pub returns-then-not-is_to_trim-clause-called : goal.returns-then-not-is_to_trim-clause-called
returns-then-not-is_to_trim-clause-called g c =
    called_since c.args.pass.now c.loop.pass c.enter-reply.new.pass c.loop.invariant.2.called
    c.enter-reply.ensures.called

pub returns-then-not-is_to_trim-clause-entered : goal.returns-then-not-is_to_trim-clause-entered
returns-then-not-is_to_trim-clause-entered g c =
    let no : c.is_to_trim.result ≡ false = search rules in
    found_room c.args.when_full _ c.args.pass.now c.loop.pass c.enter-reply.result c.enter-reply.new.pass
    c.loop.invariant.2 c.enter-reply.ensures.entered (sym c.is_to_trim.ensures ∙ no)

full : (g : _) (c : After-trim_from g) → is_to_trim c.args.when_full c.enter-reply.result ≡ true
full g c = let yes : c.is_to_trim.result ≡ true = search rules in sym c.is_to_trim.ensures ∙ yes

pub loop-preserved : goal.loop-preserved
loop-preserved g c =
    let at = (goal.at.loop-preserved g c).After-trim_from in
    let q = full g at in
    let trimmed = c.in-Ok.ensures.trimmed in (
      tt,
      tt,
      again c.args.when_full _ c.args.pass.now c.loop.pass c.enter-reply.new.pass c.trim_from.new.pass c.enter-reply.result
          c.loop.invariant.2 q c.enter-reply.ensures.entered c.enter-reply.ensures.called
          (step_recorded_none (g.P.Parking.did c.args.parking.now) c.loop.pass c.args.step c.enter-reply.result
          c.args.when_full c.enter-reply.new.pass q c.enter-reply.ensures.entered) c.trim_from.ensures.called
          trimmed.0 trimmed.1,
      c.enter-reply.ensures.stays (refused_full c.args.when_full c.enter-reply.result q) ∙ c.loop.invariant.3,
      trimmed.2,
    )

pub returns-in-Err-clause-called : goal.returns-in-Err-clause-called
returns-in-Err-clause-called g c =
    called_since c.args.pass.now c.enter-reply.new.pass c.trim_from.new.pass
    (quiet_since c.args.pass.now c.loop.pass c.enter-reply.new.pass c.loop.invariant.2.called
    (quietly _ _ c.enter-reply.ensures.called))
    c.trim_from.ensures.called

pub returns-in-Err-clause-entered : goal.returns-in-Err-clause-entered
returns-in-Err-clause-entered g c =
    let q = full g (goal.at.returns-in-Err-clause-entered g c).After-trim_from in
    gives_up c.args.when_full _ c.args.pass.now c.loop.pass c.enter-reply.new.pass c.trim_from.new.pass c.enter-reply.result
    c.loop.invariant.2 q c.enter-reply.ensures.entered c.enter-reply.ensures.called
    (step_recorded_none (g.P.Parking.did c.args.parking.now) c.loop.pass c.args.step c.enter-reply.result
    c.args.when_full c.enter-reply.new.pass q c.enter-reply.ensures.entered) c.trim_from.ensures.called
    c.loop.folded c.in-Err.fault c.loop.invariant.4 c.in-Err.ensures.trimmed

pub returns-in-Err-clause-carries : goal.returns-in-Err-clause-carries
returns-in-Err-clause-carries g c =
    subst (λ (h : Mode → ℕ). g.L.Load.carries c.enter-reply.new.load h)
    (sym (trim_holds c.loop.folded c.enter-reply.new.pass c.in-Err.fault c.trim_from.new.pass c.trim_from.ensures.called
    c.in-Err.ensures.trimmed)) c.enter-reply.ensures.carries
