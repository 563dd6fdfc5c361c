use Rattle.monitor_fronts.proofs.MakingRoom.{awaits_keep}
use Rattle.monitor_fronts.proofs.front.Front.wait_as.Goals as goal

pub returns-clause-keeps : goal.returns-clause-keeps
returns-clause-keeps g c =
    awaits_keep c.args.self.now.when_full (g.P.Parking.did c.args.parking.now) c.args.condition c.args.how
    c.args.pass.now c.call_in_room.new.pass c.call_in_room.result c.call_in_room.ensures.called.same
    c.call_in_room.ensures.made
