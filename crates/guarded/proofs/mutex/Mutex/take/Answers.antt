use Rattle.std.proofs.Common.{◌∙◌, sym, ap}
use Rattle.history.specs.declared.entry.Mode.TheVariants.{X}
use Rattle.monitor_fronts.proofs.MakingRoom.{never_missed}
use Rattle.guarded.specs.Guarding.{missed_as_no}
use Rattle.guarded.proofs.mutex.Mutex.take.Goals as goal

pub unreachable-requires : goal.unreachable-requires
unreachable-requires g c =
    let replied = c.in-Err-Missed.ensures.not_locked.replied in
    never_missed c.args.self.now.when_full (g.P.Parking.did c.args.parking.now) X 1 c.args.how c.args.pass.now
    c.try_take.new.pass replied.0 c.requires.untimed c.in-Err-Missed.ensures.not_locked.called.same replied.1
    (sym replied.2 ∙ ap missed_as_no c.in-Err-Missed.field-0-is)
