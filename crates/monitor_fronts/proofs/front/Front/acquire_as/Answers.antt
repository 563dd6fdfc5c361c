use Rattle.monitor_fronts.proofs.MakingRoom.{acquires_add}
use Rattle.monitor_fronts.proofs.front.Front.acquire_as.Goals as goal

pub returns-clause-gains : goal.returns-clause-gains
returns-clause-gains g c =
    acquires_add c.args.self.now.when_full (g.P.Parking.did c.args.parking.now) c.args.mode c.args.n c.args.how
    c.args.pass.now c.call_in_room.new.pass c.call_in_room.result c.call_in_room.ensures.called.same
    c.call_in_room.ensures.made
