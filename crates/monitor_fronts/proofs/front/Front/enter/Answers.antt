use Rattle.monitor_fronts.proofs.MakingRoom.{signals_keep, tries_add}
use Rattle.monitor_fronts.proofs.front.Front.enter.Goals as goal

pub returns-clause-gains : goal.returns-clause-gains
returns-clause-gains g c = λ m.
    tries_add c.args.self.now.when_full (g.P.Parking.did c.args.parking.now) c.args.step m c.args.pass.now
    c.enter_in_room.new.pass c.enter_in_room.result c.enter_in_room.ensures.called.same
    c.enter_in_room.ensures.entered

pub returns-clause-keeps : goal.returns-clause-keeps
returns-clause-keeps g c =
    signals_keep c.args.self.now.when_full (g.P.Parking.did c.args.parking.now) c.args.step c.args.pass.now
    c.enter_in_room.new.pass c.enter_in_room.result c.enter_in_room.ensures.called.same
    c.enter_in_room.ensures.entered
