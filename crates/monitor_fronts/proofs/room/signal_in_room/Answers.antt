use Rattle.std.proofs.Common.{rules, ◌≡◌, ◌∙◌, true, false, sym}
use Rattle.monitor.proofs.Sections.{called_since, quiet_since, quietly}
use Rattle.monitor_fronts.specs.Room.{signal_step}
use Rattle.monitor_fronts.specs.inner.Room.{is_to_trim}
use Rattle.monitor_fronts.proofs.Rounds.{again, begin, found_room, gives_up, step_recorded_none}
use Rattle.monitor_fronts.proofs.room.signal_in_room.Goals.{After-trim_from}
use Rattle.monitor_fronts.proofs.room.signal_in_room.Goals as goal

pub loop-init : goal.loop-init
loop-init g c =
    (tt, tt, begin c.args.when_full _ c.args.pass.now c.is_true.ensures, tt)

pub returns-then-not-is_to_trim-clause-called : goal.returns-then-not-is_to_trim-clause-called
returns-then-not-is_to_trim-clause-called g c =
    called_since c.args.pass.now c.loop.pass c.signal-reply.new.pass c.loop.invariant.2.called
    c.signal-reply.ensures.called

pub returns-then-not-is_to_trim-clause-signalled : goal.returns-then-not-is_to_trim-clause-signalled
returns-then-not-is_to_trim-clause-signalled g c =
    let no : c.is_to_trim.result ≡ false = search rules in
    found_room c.args.when_full _ c.args.pass.now c.loop.pass c.signal-reply.result c.signal-reply.new.pass
    c.loop.invariant.2 c.signal-reply.ensures.signalled (sym c.is_to_trim.ensures ∙ no)

full : (g : _) (c : After-trim_from g) → is_to_trim c.args.when_full c.signal-reply.result ≡ true
full g c = let yes : c.is_to_trim.result ≡ true = search rules in sym c.is_to_trim.ensures ∙ yes

pub loop-preserved : goal.loop-preserved
loop-preserved g c =
    let at = (goal.at.loop-preserved g c).After-trim_from in
    let q = full g at in
    let trimmed = c.in-Ok.ensures.trimmed in (
      tt,
      tt,
      again c.args.when_full _ c.args.pass.now c.loop.pass c.signal-reply.new.pass c.trim_from.new.pass c.signal-reply.result
          c.loop.invariant.2 q c.signal-reply.ensures.signalled c.signal-reply.ensures.called
          (step_recorded_none (g.P.Parking.did c.args.parking.now) c.loop.pass (signal_step c.args.all c.args.condition) c.signal-reply.result
          c.args.when_full c.signal-reply.new.pass q c.signal-reply.ensures.signalled) c.trim_from.ensures.called
          trimmed.0 trimmed.1,
      trimmed.2,
    )

pub returns-in-Err-clause-called : goal.returns-in-Err-clause-called
returns-in-Err-clause-called g c =
    called_since c.args.pass.now c.signal-reply.new.pass c.trim_from.new.pass
    (quiet_since c.args.pass.now c.loop.pass c.signal-reply.new.pass c.loop.invariant.2.called
    (quietly _ _ c.signal-reply.ensures.called))
    c.trim_from.ensures.called

pub returns-in-Err-clause-signalled : goal.returns-in-Err-clause-signalled
returns-in-Err-clause-signalled g c =
    let q = full g (goal.at.returns-in-Err-clause-signalled g c).After-trim_from in
    gives_up c.args.when_full _ c.args.pass.now c.loop.pass c.signal-reply.new.pass c.trim_from.new.pass c.signal-reply.result
    c.loop.invariant.2 q c.signal-reply.ensures.signalled c.signal-reply.ensures.called
    (step_recorded_none (g.P.Parking.did c.args.parking.now) c.loop.pass (signal_step c.args.all c.args.condition) c.signal-reply.result
    c.args.when_full c.signal-reply.new.pass q c.signal-reply.ensures.signalled) c.trim_from.ensures.called
    c.loop.folded c.in-Err.fault c.loop.invariant.3 c.in-Err.ensures.trimmed
