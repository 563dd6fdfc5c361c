use Rattle.monitor_fronts.proofs.Owning.{give_loses, give_recorded}
use Rattle.guarded.proofs.Calling.{is_of_lock, never_fails}
use Rattle.guarded.proofs.mutex.Mutex.give.Goals as goal

pub unreachable-requires : goal.unreachable-requires
unreachable-requires g c =
    let lock = is_of_lock c.self.view_is c.self.invariant c.requires.can.is_of in
    let ok = give_recorded (g.P.Parking.did c.args.parking.now) c.args.pass.now c.enter.new.pass c.enter.result
    lock c.enter.ensures.called.same c.is_true.ensures c.enter.ensures.entered c.requires.has in
    never_fails c.enter.result _ ok c.in-Err.is

pub returns-clause-loses : goal.returns-clause-loses
returns-clause-loses g c =
    give_loses (g.P.Parking.did c.args.parking.now) c.args.pass.now c.enter.new.pass c.enter.result
    (is_of_lock c.self.view_is c.self.invariant c.requires.can.is_of)
    c.enter.ensures.called.same c.is_true.ensures c.enter.ensures.called.shows c.enter.ensures.entered c.requires.has
