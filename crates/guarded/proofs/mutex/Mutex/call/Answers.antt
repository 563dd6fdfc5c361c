use Rattle.std.proofs.Common.{refl}
use Rattle.monitor_fronts.proofs.MakingRoom.{acquires_add, tries_add}
use Rattle.guarded.proofs.Calling.{is_of_lock}
use Rattle.guarded.proofs.mutex.Mutex.call.Goals as goal

pub returns-in-Some-clause-adds : goal.returns-in-Some-clause-adds
returns-in-Some-clause-adds g c =
    acquires_add c.self.inside.when_full (g.P.Parking.did c.args.parking.now) c.args.mode 1 c.in-Some.how
    c.args.pass.now c.call_in_room.new.pass c.call_in_room.result c.call_in_room.ensures.called.same
    c.call_in_room.ensures.made refl (is_of_lock c.self.view_is c.self.invariant c.requires.can.is_of)

pub returns-in-None-clause-adds : goal.returns-in-None-clause-adds
returns-in-None-clause-adds g c =
    tries_add c.self.inside.when_full (g.P.Parking.did c.args.parking.now) _ c.args.mode c.args.pass.now
    c.enter_in_room.new.pass c.enter_in_room.result c.enter_in_room.ensures.called.same
    c.enter_in_room.ensures.entered refl (is_of_lock c.self.view_is c.self.invariant c.requires.can.is_of)
