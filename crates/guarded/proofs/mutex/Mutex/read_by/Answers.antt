use Rattle.std.proofs.Common.{◌∙◌, sym, ap}
use Rattle.history.specs.declared.entry.Mode.TheVariants.{S}
use Rattle.monitor_fronts.proofs.MakingRoom.{never_missed}
use Rattle.guarded.specs.Guarding.{yes_unless_missed, missed_as_no}
use Rattle.guarded.proofs.mutex.Mutex.read_by.Goals as goal

pub unreachable-requires : goal.unreachable-requires
unreachable-requires g c =
    let replied = c.try_read_by.ensures.returned in
    never_missed c.args.self.now.when_full (g.P.Parking.did c.args.parking.now) S 1 c.args.how c.args.pass.now
    c.try_read_by.new.pass replied.0 c.requires.untimed c.try_read_by.ensures.called.same replied.1
    (sym replied.2 ∙ (ap yes_unless_missed c.in-Err-Missed.is ∙ ap missed_as_no c.in-Err-Missed.field-0-is))
